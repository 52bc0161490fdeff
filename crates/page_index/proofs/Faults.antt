-- The faults of a page set.
use Rattle.std.proofs.Common.{◌≡◌, refl}
use Rattle.line.specs.declared.layer.Layer.TheVariants.{Session}
use Rattle.page_index.specs.declared.fault.PageSetFault.{PageSetFault}
use Rattle.page_index.specs.declared.fault.PageSetFault.TheVariants.{Misfit, NotThere, BadPlaces}
use Rattle.page_index.specs.Faults.{refusal}

-- all are of one layer
pub one_layer : (f : PageSetFault) → Session ≡ (refusal f).layer
one_layer (Misfit places) = refl
one_layer (NotThere asked) = refl
one_layer (BadPlaces places) = refl
