use Rattle.std.proofs.Common.{rules, arith, ◌≡◌, refl, ◌∙◌}
use Rattle.files.specs.Reading.{reading_number}
use Rattle.files.specs.ReadingLaws.{fed_none, turned_none, turned_fed, turned_more, turns_going}
use Rattle.files.proofs.read_open.Goals as goal

pub loop-turns-init : goal.loop-turns-init
loop-turns-init g c = (rw c.start.ensures (turned_none 0 (λ h. omega (arith, h)) refl fed_none), λ _. refl, refl)

pub loop-turns-preserved : goal.loop-turns-preserved
loop-turns-preserved g c =
    let l = c.loop-turns in
    let turn = c.read_piece-turn in
    -- within the loop nothing is refused yet
    let going : reading_number l.turn.state ≡ 3 → ⊥ = λ h. omega (arith, h, l.invariant.1 c.loop-turns-test.true) in (
      turned_more (turned_fed going l.invariant.0) turn.ensures,
      λ h. turns_going l.turns (reading_number turn.result.state) (rw c.turns_left-turns.ensures at h),
      turn.auto.buffer ∙ l.invariant.2,
    )
