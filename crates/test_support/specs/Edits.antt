-- What making the edits of a file promises. No contract can say which bytes a file holds, so the promise names the edits that came.
-- Assumes nothing.
use Rattle.std.specs.Prelude.{◌≡◌, ℕ, List, [], ◌∷◌, ◌++◌, slice_set, refl}
use Rattle.std.proofs.Common.{◌∙◌}

-- bytes with edits made, the last one first in the list: each a place and a byte, and none past the end
abbrev pub edit : List (ℕ × ℕ) → List ℕ → List ℕ
edit [] m = m
edit (e ∷ es) m = slice_set (edit es m) e.0 e.1

-- some edits were made
pub record Edited (before after : List ℕ) : Type 0 where
  pub edits : List (ℕ × ℕ)
  pub makes : after ≡ edit edits before

pub edited_none : {m : List ℕ} → Edited m m
edited_none = record { edits = []; makes = refl }

pub edited_one : {m n : List ℕ} (at b : ℕ) → n ≡ slice_set m at b → Edited m n
edited_one at b e = record { edits = (at, b) ∷ []; makes = e }

edit_more : (es fs : List (ℕ × ℕ)) (m : List ℕ) → edit (fs ++ es) m ≡ edit fs (edit es m)
edit_more es [] m = refl
edit_more es (f ∷ fs) m = rw (edit_more es fs m)

-- some edits, and others behind them
pub edited_more : {m n k : List ℕ} → Edited m n → Edited n k → Edited m k
edited_more {m} {n} {k} p q = record {
  edits = q.edits ++ p.edits;
  makes = q.makes ∙ rw (p.makes, edit_more p.edits q.edits m);
}
