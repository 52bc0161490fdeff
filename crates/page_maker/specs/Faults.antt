-- The faults of the page maker, with the layer, the number and the values of each. Assumes nothing.
use Rattle.std.specs.Prelude.{ℕ, List, [], ◌∷◌}
use Rattle.line.specs.declared.layer.Layer.{Layer}
use Rattle.line.specs.declared.layer.Layer.TheVariants.{Engine as EngineLayer, PageMaker}
use Rattle.line.specs.Faults.{Refusal, refused}
use Rattle.page_rule.specs.Formatting.{Ending, Ending.line_refused, Ending.too_many_pages}
use Rattle.page_maker.specs.declared.fault.PageFault.{PageFault}
use Rattle.page_maker.specs.declared.fault.PageFault.TheVariants.{Engine, TooManyPages}

abbrev pub number : PageFault → ℕ
number (Engine f) = 6
number (TooManyPages first limit) = 7

abbrev pub values : PageFault → List ℕ
values (Engine f) = f.fault.cause ∷ f.fault.column ∷ f.line ∷ f.page ∷ []
values (TooManyPages first limit) = first ∷ limit ∷ []

abbrev pub layer : PageFault → Layer
layer (Engine f) = EngineLayer
layer (TooManyPages first limit) = PageMaker

abbrev pub refusal : PageFault → Refusal
refusal f = refused (layer f) (number f) (values f)

-- how the rule's formatting ends at this fault
abbrev pub ending : PageFault → Ending
ending (Engine f) = line_refused f.fault.cause f.fault.column f.line f.page
ending (TooManyPages first limit) = too_many_pages first limit
