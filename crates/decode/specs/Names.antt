-- The first byte alone decides the flags that an instruction names (02, request 07).
-- Assumes nothing.
use Rattle.std.specs.Prelude.{ℕ, ◌+◌, ◌-◌, ◌/◌, ◌≡◌, refl, List, length, get_or, ltb, leb}
use Rattle.base.specs.ChoiceLaws.{pick_has}
use Rattle.base.specs.Outcome.{Outcome}
use Rattle.base.specs.Outcome.Outcome.{value, refused}
use Rattle.isa.specs.declared.FlagSet.{FlagSet}
use Rattle.isa.specs.declared.Instruction.{Instruction}
use Rattle.isa.specs.Map.{cell_of, cell_length, names_of}
use Rattle.columns.specs.Form.{form_of, naming}
use Rattle.decode.specs.Decode.{decode_at, without_flags}

-- what is decoded names these flags
abbrev Names : FlagSet → Outcome (Instruction × ℕ × FlagSet) → Type 0
Names f (value d) = d.2 ≡ f
Names f (refused n) = Unit {0}

naming_names : (f : FlagSet) (o : Outcome (Instruction × ℕ)) → Names f (naming f o)
naming_names f (value d) = refl
naming_names f (refused n) = tt

pub without_naming : (f : FlagSet) (o : Outcome (Instruction × ℕ)) → without_flags (naming f o) ≡ o
without_naming f (value d) = refl
without_naming f (refused n) = refl

names_here : (s : List ℕ) (at : ℕ) → Names (names_of (get_or s at 0)) (decode_at s at)
unfolding decode_at
names_here s at =
    pick_has (Names f) (ltb at (length s)) _ _
    (λ _. pick_has (Names f) (leb (cell_length (cell_of (get_or s at 0))) (length s - at)) _ _
    (λ _. naming_names f (form_of (cell_of (get_or s at 0)) (get_or s at 0 / 16) (get_or s (at + 1) 0) (get_or s (at + 2) 0) (get_or s (at + 3) 0))) (λ _. tt))
    (λ _. tt)
  where
    f : FlagSet
    f = names_of (get_or s at 0)

pub names_by_first : (s : List ℕ) (at : ℕ) (d : Instruction × ℕ × FlagSet) → decode_at s at ≡ value d → d.2 ≡ names_of (get_or s at 0)
names_by_first s at d e = rw e at (names_here s at)
