-- Parts of rule 27: what comes after an instruction, and the values of the first claimed cell.
-- Assumes nothing.
use Rattle.std.specs.Prelude.{ℕ, ◌+◌, ◌-◌, eqb, ltb, Option, Some, None}
use Rattle.base.specs.Choice.{pick}
use Rattle.base.specs.Formula.{Formula, le, ◌⇒◌}
use Rattle.certificate.specs.declared.NewValue.{NewValue}
use Rattle.certificate.specs.declared.NewValue.TheVariants.{Number, OneMore, OneLess, Within, CopyOf, Unknown}
use Rattle.certificate.specs.Layout.{Certificate}
use Rattle.certificate.specs.Summaries.{range}
use Rattle.safety.specs.Rules as rules
use Rattle.safety.specs.Rules.{bound_at, worst}
use Rattle.entries.specs.Fields.{said_by}
use Rattle.claims.specs.declared.EntryAt.{EntryAt}
use Rattle.claims.specs.declared.Values.{Values}
use Rattle.claims.specs.Values.{values_of}
use Rattle.rule27.specs.declared.After.{After}
use Rattle.rule27.specs.declared.After.TheVariants as after

-- the bound of an entry where its first claimed cell holds c, and its greatest
abbrev pub bound_of : EntryAt → ℕ → ℕ
bound_of t c = bound_at (said_by t.certificate) t.address.0 c

abbrev pub worst_of : EntryAt → ℕ
worst_of t = worst (said_by t.certificate) t.address.0

-- the cycles that come after, where the first claimed cell holds c
abbrev pub after_of : After → ℕ → ℕ
after_of after.Nothing c = 0
after_of (after.Worst n t) c = n + worst_of t
after_of (after.Along n t) c = n + bound_of t c
after_of (after.OneMore t) c = pick (ltb c 255) (bound_of t (c + 1)) (worst_of t)
after_of (after.OneLess t) c = pick (ltb 0 c) (bound_of t (c - 1)) (worst_of t)

-- as `bound_along`
abbrev pub along_of : Option NewValue → EntryAt → After
along_of None t = after.Along 0 t
along_of (Some (Number n)) t = after.Worst 0 t
along_of (Some OneMore) t = after.OneMore t
along_of (Some OneLess) t = after.OneLess t
along_of (Some (Within q)) t = after.Worst 0 t
along_of (Some (CopyOf y)) t = after.Worst 0 t
along_of (Some Unknown) t = after.Worst 0 t

-- as `first_value`: without a first claim there is one case
abbrev pub first_values_of : Certificate → ℕ → rules.Edge → Values
first_values_of C a e = pick (eqb (C.first_cell a) 255) (record { range = range 0 0; narrowed = None }) (values_of C a e (C.first_cell a))
