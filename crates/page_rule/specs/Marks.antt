-- The marks: how many items in front and at the end of a text no edit has touched. Its items are its lines and the end. Assumes nothing.
use Rattle.std.specs.Prelude.{◌≡◌, ℕ, ◌+◌, ◌-◌, ◌<◌, ◌≤◌, min, List, [], ◌∷◌, length, take, drop, None}
use Rattle.line.specs.Lines.{Line}
use Rattle.line.specs.Stores.{Edit, Edit.replace, Edit.insert, Edit.remove, edited, place_fault}
use Rattle.page_rule.specs.declared.marks.Marks.{Marks}
use Rattle.page_rule.specs.Moving.{Moves}

-- the marks of so many items of which none is touched
abbrev pub all_untouched : ℕ → Marks
all_untouched items = record { head = items; tail = items }

-- an edit leaves the items in front of its line as they were
abbrev pub head_after : ℕ → Edit → ℕ
head_after head (replace at line) = min head at
head_after head (insert at line) = min head at
head_after head (remove at) = min head at

-- and those behind its line, in a text of n lines before the edit; what is inserted stands before its line, so that stays as well
abbrev pub tail_after : ℕ → ℕ → Edit → ℕ
tail_after n tail (replace at line) = min tail (n - at)
tail_after n tail (insert at line) = min tail (n + 1 - at)
tail_after n tail (remove at) = min tail (n - at)

abbrev pub marks_after : ℕ → Marks → Edit → Marks
marks_after n marks edit = record { head = head_after marks.head edit; tail = tail_after n marks.tail edit }

-- edits one after the other: the lines after them
abbrev pub all_edited : List Line → List Edit → List Line
all_edited lines [] = lines
all_edited lines (e ∷ es) = all_edited (edited lines e) es

-- the marks after them
abbrev pub all_marked : List Line → Marks → List Edit → Marks
all_marked lines marks [] = marks
all_marked lines marks (e ∷ es) = all_marked (edited lines e) (marks_after (length lines) marks e) es

-- each has a line at its turn
abbrev pub AllAccepted : List Line → List Edit → Type 0
AllAccepted lines [] = Unit {0}
AllAccepted lines (e ∷ es) = (place_fault (length lines) e ≡ None) × AllAccepted (edited lines e) es

-- what the marks of a text say, with the text as it was before its edits
pub record Marked (old now : List Line) (marks : Marks) : Type 0 where
  -- no mark counts more items than there were or than there are
  pub head_old : marks.head ≤ length old + 1
  pub head_now : marks.head ≤ length now + 1
  pub tail_old : marks.tail ≤ length old + 1
  pub tail_now : marks.tail ≤ length now + 1
  -- the first `head` items are as they were
  pub heads : take marks.head now ≡ take marks.head old
  -- the last `tail` items are as they were
  pub tails : drop (length now + 1 - marks.tail) now ≡ drop (length old + 1 - marks.tail) old

pub record MarksLaw : Type 0 where
  -- the marks of a text without edits say what they should
  pub at_first : (lines : List Line) → Marked lines lines (all_untouched (length lines + 1))
  -- so do those of an edited text after one edit more
  pub one_more : (old now : List Line) (marks : Marks) (edit : Edit) → Marked old now marks → place_fault (length now) edit ≡ None → Marked old (edited now edit) (marks_after (length now) marks edit)
  -- and those of a text after any edits
  pub after_all : (lines : List Line) (edits : List Edit) → AllAccepted lines edits → Marked lines (all_edited lines edits) (all_marked lines (all_untouched (length lines + 1)) edits)
  -- from each item of the tail on, the lines are those from the item on that it was
  pub tail_lines : (old now : List Line) (marks : Marks) (i j : ℕ) → Marked old now marks → length now + 1 - j ≤ marks.tail → Moves (length old + 1) (length now + 1) i j → drop j now ≡ drop i old
  -- no mark ever rises
  pub falls : (n : ℕ) (marks : Marks) (edit : Edit) → ((marks_after n marks edit).head ≤ marks.head) × ((marks_after n marks edit).tail ≤ marks.tail)
  -- after one edit or more, both together count no more items than there were
  pub apart : (lines : List Line) (edits : List Edit) → AllAccepted lines edits → 0 < length edits
      → (all_marked lines (all_untouched (length lines + 1)) edits).head + (all_marked lines (all_untouched (length lines + 1)) edits).tail ≤ length lines + 1
