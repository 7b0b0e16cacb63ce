-- `put`: the stores of the part that fits; the others lie past the end.
use Rattle.std.proofs.Common.{◌≡◌, ℕ, zero, suc, ◌+◌, ◌-◌, ◌≤◌, List, [], ◌∷◌, length, take, refl, sym, ◌∙◌, ◌<◌, ◌⊎◌, ⊎_elim, inl, inr, arith, le_of_eq, take_all}
use Rattle.std.specs.Prelude.{slice_set}
use Rattle.std.proofs.lemmas.List.{length-take-le, length-set}
use Rattle.std.proofs.lemmas.List.Edits.{sets, sets-eq}
use Rattle.std.proofs.lemmas.Slice.{put_mid-paste}
use Rattle.base.specs.Formula.{le?}
use Rattle.base.specs.Lists.{sets_out}
use Rattle.test_support.proofs.put.Goals as goal

-- stores of the first n, where the others lie past the end, or there are none
sets_front : (p vs : List ℕ) (k n : ℕ) → (length vs ≤ n) ⊎ (length p ≤ k + n) → sets p k (take n vs) ≡ sets p k vs
sets_front p vs k n (inl all) = rw (take_all n vs all)
sets_front p vs k zero (inr out) = sym (sets_out p vs k (omega arith))
sets_front p [] k (suc n) (inr out) = refl
sets_front p (v ∷ vs) k (suc n) (inr out) = sets_front (slice_set p k v) vs (suc k) n (inr (omega (arith, length-set {A = ℕ})))

pub returns-then-at-bytes : goal.returns-then-at-bytes
returns-then-at-bytes c =
    let n = c.min-n.result in
    let at = c.args.at in
    let bytes = c.args.bytes.now in
    let part = c.args.part.now in
    let front = take n part in
    let whole : length front ≡ n = length-take-le n part (omega arith) in
    let fits : (length part ≤ n) ⊎ (length bytes ≤ at + n) =
    ⊎_elim inl (λ (h : n < length part). inr (omega arith)) (le? (length part) n) in
    let left = put_mid-paste at (at + n - at) bytes c.copy_from_slice.new.self front n c.copy_from_slice.ensures.after (omega arith) (sym whole) in
    let stored = rw whole at (sets-eq front bytes at (omega arith)) in
    left ∙ (rw (take_all n front (le_of_eq whole)) (sym stored) ∙ sets_front bytes part at n fits)

pub returns-else-at-bytes : goal.returns-else-at-bytes
returns-else-at-bytes c = sym (sets_out c.args.bytes.now c.args.part.now c.args.at c.if-at-bytes.false)
