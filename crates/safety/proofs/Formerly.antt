-- The verdict as it was before request 14: what it accepted is accepted still.
-- Assumes nothing.
use Rattle.std.specs.Prelude.{ℕ, ◌+◌, ◌%◌, ◌≤◌, ◌≡◌, Bool, true, false, ◌||◌, List, eqb}
use Rattle.std.proofs.Common.{arith}
use Rattle.base.specs.Addresses.{rom_addr}
use Rattle.base.specs.Cells.{Bytes}
use Rattle.base.specs.Choice.{pick}
use Rattle.base.specs.ChoiceLaws.{pick_has}
use Rattle.base.specs.Formula.{Formula, Holds}
use Rattle.base.specs.Lengths.{largest_rom}
use Rattle.base.specs.Outcome.{Outcome}
use Rattle.base.specs.Outcome.Outcome.{value, refused}
use Rattle.isa.specs.declared.FlagSet.{FlagSet}
use Rattle.isa.specs.declared.Instruction.{Instruction}
use Rattle.decode.specs.Decode.{decode_at}
use Rattle.action.specs.declared.Action.{Action}
use Rattle.action.specs.Action.{action_of}
use Rattle.certificate.specs.declared.Range.{Range}
use Rattle.certificate.specs.declared.NewValue.TheVariants.{Within, Unknown}
use Rattle.certificate.specs.declared.Write.{Write}
use Rattle.certificate.specs.declared.CodeAccess.{CodeAccess}
use Rattle.certificate.specs.declared.FlagEffect.{FlagEffect}
use Rattle.certificate.specs.declared.FlagEffect.TheVariants.{Kept, Changed, Compared}
use Rattle.certificate.specs.declared.Flow.{Flow}
use Rattle.certificate.specs.declared.Flow.TheVariants.{Step, Call, Return, InterruptReturn, Forbidden}
use Rattle.certificate.specs.declared.Summary.{Summary}
use Rattle.certificate.specs.declared.Verdict.TheVariants.{Accepted}
use Rattle.certificate.specs.Layout.{Certificate, certificate_from, certificate_of}
use Rattle.certificate.specs.Summaries.{range, code_access, summary_with, summary_of}
use Rattle.safety.specs.Rules.{Edge, Change, Change.changed, edges, is_unchanged, high, direct_write, pointed_write, code_in_rom}
use Rattle.safety.specs.Rules.{change_of, follows, claim_follows, flags_follow, compare_follows, edge26, worst, same_first, bound_along, bound_after}
use Rattle.safety.specs.Rules.{paid, edge27, rule21, rule22, rule23, rule24_by, rule24, rule25, rule26, rule27}
use Rattle.safety.specs.CodeRange.{load_range}
use Rattle.safety.specs.Verdicts.{summary_from, summary_at, next_at, cost_at, rules_with, rules_on, verdict_of}
use Rattle.safety.specs.Accepted.{Every}
use Rattle.safety.proofs.OwnRules.{ascending_with}
use Rattle.safety.proofs.Accepted.{accepted_lengths, accepted_rules}
use Rattle.safety.proofs.Exact.{unbroken, accepted_when}
use Rattle.safety.proofs.ByteLaws.{part_bytes}
use Rattle.safety.proofs.CodeRangeLaws.{loaded_byte}
use Rattle.safety.specs.Formerly.{former_in_rom, former_summary, former_rules, verdict_formerly}

-- a byte of 0 to 255 gives a claim what a byte of which nothing is known gives it, as LDC did
pub any_byte : (C : Certificate) (a : ℕ) (e : Edge) (x l h : ℕ)
    → (Holds (follows C a e (changed (Within (range 0 255))) x l h) → Holds (follows C a e (changed Unknown) x l h))
    × (Holds (follows C a e (changed Unknown) x l h) → Holds (follows C a e (changed (Within (range 0 255))) x l h))
any_byte C a e x l h = (λ p. (omega arith, p.1), λ p. (omega arith, p.1))

-- what a write may leave in a cell, then and now: the same, or bytes of a range where it was 0 to 255
data Narrower : Change → Change → Type 0 where
  same : {c : Change} → Narrower c c
  narrower : {q : Range} → q.greatest ≤ 255 → Narrower (changed (Within (range 0 255))) (changed (Within q))

narrower_pick : (b : Bool) {c c' d d' : Change} → Narrower c c' → Narrower d d' → Narrower (pick b c d) (pick b c' d')
narrower_pick true n m = n
narrower_pick false n m = m

unchanged_still : {c c' : Change} → Narrower c c' → Holds (is_unchanged c) → Holds (is_unchanged c')
unchanged_still same h = h
unchanged_still (narrower g) h = h

-- a rule on each edge, from another there
edges_map : (to : Flow) (next : ℕ) (r r' : Edge → Formula) → ((e : Edge) → Holds (r e) → Holds (r' e)) → Holds (edges to next r)
    → Holds (edges to next r')
edges_map (Step cc to) next r r' f h = (λ l. f _ (h.0 l), λ l. f _ (h.1 l))
edges_map (Call to) next r r' f h = h
edges_map Return next r r' f h = h
edges_map InterruptReturn next r r' f h = h
edges_map Forbidden next r r' f h = h

-- a summary with another write
abbrev with_write : Summary → Write → Summary
with_write S w = record {
  write = w;
  first = S.first;
  second = S.second;
  code = S.code;
  flags = S.flags;
  stack = S.stack;
  control = S.control;
  flow = S.flow;
}

module _ (C : Certificate) (a : ℕ) where
  -- a summary then and now: they differ in the write, which asks no more of its cells now and leaves no more in them
  data Tighter (S : Summary) : Summary → Type 0 where
    tighter : (w : Write)
        → (Holds (direct_write C (C.routine a) S.write) → Holds (direct_write C (C.routine a) w))
        → (Holds (pointed_write C a S.write) → Holds (pointed_write C a w))
        → ((x : ℕ) → Narrower (change_of C a S.write x) (change_of C a w x))
        → Tighter S (with_write S w)

  alike : (S : Summary) → Tighter S S
  alike S = tighter S.write (λ h. h) (λ h. h) (λ x. same)

  module _ (load : CodeAccess → Range) (byte : (c : CodeAccess) → (load c).greatest ≤ 255) where
    action_tighter : (act : Action) (n : FlagSet) (f : FlagEffect) → Tighter (summary_with (λ c. range 0 255) act n f) (summary_with load act n f)
    action_tighter (Action.Binary op d s) n f = alike _
    action_tighter (Action.Modify op d) n f = alike _
    action_tighter (Action.Load d s) n f = alike _
    action_tighter (Action.Push s) n f = alike _
    action_tighter (Action.Pop d) n f = alike _
    action_tighter (Action.LoadCode d c) n f =
        tighter _ (λ h. h) (λ h. h) (λ x. narrower_pick (eqb x d.0) (narrower (byte (code_access c))) same)
    action_tighter (Action.LoadCodeStep d p up) n f =
        tighter _ (λ h. h) (λ h. h)
        (λ x. narrower_pick (eqb x p.0 || eqb x (p.0 + 1)) same (narrower_pick (eqb x d.0) (narrower (byte (CodeAccess.Pair p 0 0))) same))
    action_tighter Action.External n f = alike _
    action_tighter (Action.Jump cc to) n f = alike _
    action_tighter (Action.JumpPair p) n f = alike _
    action_tighter (Action.Call to) n f = alike _
    action_tighter (Action.CallPair p) n f = alike _
    action_tighter Action.Return n f = alike _
    action_tighter Action.InterruptReturn n f = alike _
    action_tighter (Action.Carry c) n f = alike _
    action_tighter (Action.Interrupts on) n f = alike _
    action_tighter Action.Idle n f = alike _
    action_tighter Action.Stop n f = alike _
    action_tighter Action.Nop n f = alike _

    summary_tighter : (o : Outcome (Instruction × ℕ × FlagSet)) → Tighter (summary_from (λ c. range 0 255) o a) (summary_from load o a)
    unfolding summary_from summary_of
    summary_tighter (value d) = action_tighter (action_of d.0 (rom_addr ((a + d.1) % 65536))) d.2 _
    summary_tighter (refused n) = alike _

  -- 24 asks no more than it did
  in_rom_still : (rom : ℕ) → ((x : ℕ) → high C a x ≤ 255) → (c : CodeAccess) → Holds (former_in_rom C rom a c) → Holds (code_in_rom C rom a c)
  in_rom_still rom byte CodeAccess.Nothing h = h
  in_rom_still rom byte (CodeAccess.Direct t) h = h
  in_rom_still rom byte (CodeAccess.Pair p up down) h = (h.0, (omega arith, omega (arith, byte (p.0 + 1))))

  follows_still : (e : Edge) {c c' : Change} → Narrower c c' → (x l h : ℕ) → Holds (follows C a e c x l h) → Holds (follows C a e c' x l h)
  follows_still e same x l h p = p
  follows_still e (narrower g) x l h p = (omega arith, omega arith)

  flags_still : (w w' : Write) (f : FlagEffect) (t : ℕ) → ((x : ℕ) → Narrower (change_of C a w x) (change_of C a w' x)) → Holds (flags_follow C a w f t)
      → Holds (flags_follow C a w' f t)
  flags_still w w' Kept t n h = (h.0, (h.1.0, unchanged_still (n (C.compare_cell t)) h.1.1))
  flags_still w w' Changed t n h = h
  flags_still w w' (Compared x k) t n h = h

  -- the bound behind a range is the successor's worst, whatever the range
  paid_still : {c c' : Change} → Narrower c c' → (e : Edge) (cost t : ℕ)
      → Holds (paid C a e cost (λ k. pick (same_first C a t) (bound_along C c t k) (worst C t)))
      → Holds (paid C a e cost (λ k. pick (same_first C a t) (bound_along C c' t k) (worst C t)))
  paid_still same e cost t h = h
  paid_still (narrower g) e cost t h = h

  -- the rules that held hold
  rules_still : (rom : ℕ) → ((x : ℕ) → high C a x ≤ 255) → (S S' : Summary) → Tighter S S' → (next cost : ℕ)
      → Every (rules_with (rule24_by C (former_in_rom C rom) a S) rom C a S next cost) → Every (rules_on rom C a S' next cost)
  unfolding rules_with rule21 rule22 rule23 rule24 rule25 rule26 rule27 edge26 edge27 claim_follows compare_follows paid bound_after
  rules_still rom byte S _ (tighter w direct pointed change) next cost (r21, (r22, (r23, (r24, (r25, (r26, (r27, t))))))) = (
    r21,
    (
      r22,
      (
        (r23.0, (r23.1.0, (direct r23.1.1.0, r23.1.1.1))),
        (
          (r24.0, (r24.1.0, (pointed r24.1.1.0, in_rom_still rom byte S.code r24.1.1.1))),
          (r25, ((edges_map S.flow next _ _ edge26_still r26.0, r26.1), ((edges_map S.flow next _ _ edge27_still r27.0, r27.1), t))),
        ),
      ),
    ),
  )
    where
      edge26_still : (e : Edge) → Holds (edge26 C a S e) → Holds (edge26 C a (with_write S w) e)
      edge26_still e h f = (
        (λ p. follows_still e (change _) _ _ _ ((h f).0.0 p), λ p. follows_still e (change _) _ _ _ ((h f).0.1 p)),
        λ p. flags_still S.write w S.flags e.to change ((h f).1 p),
      )

      edge27_still : (e : Edge) → Holds (edge27 C a S cost e) → Holds (edge27 C a (with_write S w) cost e)
      edge27_still e h f = paid_still (change (C.first_cell a)) e cost e.to (h f)

-- the claims of a certificate of bytes are ranges of bytes
high_byte : (cert : List ℕ) → Bytes cert → (a x : ℕ) → high (certificate_of cert) a x ≤ 255
unfolding certificate_of certificate_from high
high_byte cert h a x =
    let entry = part_bytes cert h 0 14 largest_rom a in
    pick_has (λ n. n ≤ 255) (eqb x _) _ _ (λ _. omega (arith, entry 8))
    (λ _. pick_has (λ n. n ≤ 255) (eqb x _) _ _ (λ _. omega (arith, entry 11)) (λ _. omega arith))

-- an old certificate that was accepted stays accepted
pub still_accepted : (rom : ℕ) (image cert : List ℕ) → Bytes image → Bytes cert → verdict_formerly rom image cert ≡ Accepted
    → verdict_of rom image cert ≡ Accepted
unfolding summary_at
still_accepted rom image cert image_bytes cert_bytes h =
    let C = certificate_of cert in
    let p = accepted_lengths former_rules rom image cert h in
    let r = accepted_rules former_rules rom C image (λ a. ascending_with _ _ _ _ _ _ _) p.1 in
    accepted_when rom image cert (unbroken rom image cert p.0 r.0 (λ a l s.
    rules_still C a rom (high_byte cert cert_bytes a) (former_summary image a) (summary_at C image a)
    (summary_tighter C a (load_range C image a) (loaded_byte C image a image_bytes) (decode_at image a)) (next_at image a) (cost_at image a) (r.1 a l s)))
