-- What was decoded encodes to the bytes read, by the law of the round trip, or is refused for want of room.
-- Assumes nothing.
use Rattle.std.proofs.Common.{◌≡◌, ℕ, Bool, true, false, refl, sym, ◌∙◌, length}
use Rattle.std.specs.Prelude.{Result, Ok, Err}
use Rattle.std.specs.Result.{result_or}
use Rattle.base.specs.Choice.{pick}
use Rattle.base.specs.Outcome.Outcome.{value, refused}
use Rattle.encode.specs.Answer.{encoded}
use Rattle.encode.specs.declared.EncodeError.{EncodeError}
use Rattle.roundtrip.specs.declared.CopyError.TheVariants.{Short}
use Rattle.roundtrip.specs.Copy.{copy_answer, copy_into, copied}
use Rattle.roundtrip.specs.RoundTrip.{re_encoded}
use Rattle.roundtrip.proofs.copy_instruction.Goals as goal

short_or : (r : Result ℕ EncodeError) (t : Bool) (n : ℕ) → encoded r ≡ pick t (refused 7) (value n)
    → copied (result_or r (Err Short)) ≡ pick t (refused 7) (value n)
short_or (Ok m) t n e = e
short_or (Err x) true n e = refl
short_or (Err x) false n e = cc

pub returns-clause-result_value : goal.returns-clause-result_value
unfolding copy_answer
returns-clause-result_value c =
    let same = re_encoded c.args.s.now c.args.at (λ k. (c.type_inv.s k).fits) _ _ _ c.args.out.now (sym c.in_ok-decoded.ensures) in
    rw (← c.in_ok-decoded.ensures, c.or.ensures) (short_or c.encode.result _ _ (c.encode.ensures.result_value ∙ same.0))

pub returns-clause-out_after : goal.returns-clause-out_after
unfolding copy_into
returns-clause-out_after c =
    let same = re_encoded c.args.s.now c.args.at (λ k. (c.type_inv.s k).fits) _ _ _ c.args.out.now (sym c.in_ok-decoded.ensures) in
    rw (← c.in_ok-decoded.ensures) (c.encode.ensures.out_after ∙ same.1)
