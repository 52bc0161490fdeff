-- What is printed of a formatting. Assumes nothing.
use Rattle.std.specs.Prelude.{ℕ, zero, suc, List, [], ◌∷◌, ◌++◌, take, drop, codes, decimal}
use Rattle.engine.specs.Model.{row_width}
use Rattle.page_rule.specs.Pages.{page_rows}
use Rattle.report.specs.declared.numbers.PageNumbers.{PageNumbers}
use Rattle.report.specs.declared.numbers.Totals.{Totals}

-- `page P: first F, items I, rows R, steps S`
abbrev pub page_head : PageNumbers → List ℕ
page_head n =
    codes "page " ++ (decimal n.page ++ (codes ": first " ++ (decimal n.first ++ (codes ", items " ++ (decimal n.items ++ (codes ", rows " ++ (decimal n.rows ++ (codes ", steps " ++ decimal n.steps))))))))

-- the first rows of a body, a line feed behind each
abbrev pub rows_text : ℕ → List ℕ → List ℕ
rows_text zero body = []
rows_text (suc k) body = take row_width body ++ (10 ∷ rows_text k (drop row_width body))

-- the head, and all rows of the body
abbrev pub page_text : PageNumbers → List ℕ → List ℕ
page_text n body = page_head n ++ (10 ∷ rows_text page_rows body)

-- `pages P, steps S`
abbrev pub totals : Totals → List ℕ
totals t = codes "pages " ++ (decimal t.pages ++ (codes ", steps " ++ decimal t.steps))
