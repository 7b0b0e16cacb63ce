-- A map of another length is refused by 7 as it is; else the run marks, and its marks are the map.
use Rattle.std.proofs.Common.{◌∙◌, ne_eqb}
use Rattle.machine.specs.Reached.{covered_map}
use Rattle.machine.proofs.ReachedLaws.{covered}
use Rattle.machine.proofs.run_covered.Goals as goal

pub returns-then-map-ne-WORDS-clause-map : goal.returns-then-map-ne-WORDS-clause-map
unfolding covered_map
returns-then-map-ne-WORDS-clause-map c = rw (ne_eqb _ _ c.if-map-ne-WORDS.true)

pub returns-clause-map : goal.returns-clause-map
returns-clause-map c =
    let size = c.if-map-ne-WORDS.false in
    covered _ _ _ _ _ _ size (c.run_marking.auto.map ∙ size) (λ w. (c.type_inv.map w).fits) c.run_marking.ensures.map
