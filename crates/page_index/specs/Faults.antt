-- The faults of a page set, with the layer, the number and the values of each. Assumes nothing.
use Rattle.std.specs.Prelude.{ℕ, [], ◌∷◌}
use Rattle.line.specs.declared.layer.Layer.TheVariants.{Session}
use Rattle.line.specs.Faults.{Refusal, refused}
use Rattle.page_index.specs.declared.fault.PageSetFault.{PageSetFault}
use Rattle.page_index.specs.declared.fault.PageSetFault.TheVariants.{Misfit, NotThere, BadPlaces}

-- what is given does not belong together: the number of places
abbrev pub misfit : ℕ → Refusal
misfit places = refused Session 5 (places ∷ [])

-- no such page or row: the number asked for
abbrev pub not_there : ℕ → Refusal
not_there asked = refused Session 8 (asked ∷ [])

-- no number of places: the number
abbrev pub bad_places : ℕ → Refusal
bad_places places = refused Session 9 (places ∷ [])

abbrev pub refusal : PageSetFault → Refusal
refusal (Misfit places) = misfit places
refusal (NotThere asked) = not_there asked
refusal (BadPlaces places) = bad_places places
