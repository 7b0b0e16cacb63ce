-- Parts of a slice, as they come back from a call that was lent them; a list by its elements; stores that fill a list from its front or lie past
-- its end.
-- Assumes nothing.
use Rattle.std.specs.Prelude.{◌≡◌, ℕ, zero, suc, ◌+◌, ◌-◌, ◌<◌, ◌≤◌, List, [], ◌∷◌, ◌++◌, map, length, take, drop, slice_index, slice_set, refl}
use Rattle.std.proofs.Common.{sym, ◌∙◌, ap, append_assoc, append-nil, le_of_eq, add-one, arith, length-drop, drop_of_length-le, take_all, drop-cons, take_at, drop_at, drop-drop}
use Rattle.std.proofs.lemmas.List.{set_at}
use Rattle.std.proofs.Math.Seq.{set_out}
use Rattle.std.proofs.lemmas.List.Edits.{sets}
use Rattle.base.specs.Choice.{from}

-- the part from n to the end
pub part_to_end : (n : ℕ) (l : List ℕ) → take (length l - n) (drop n l) ≡ drop n l
part_to_end n l = take_all (length l - n) (drop n l) (le_of_eq (length-drop n l))

-- the whole, once the part from a on has come back with d in front
pub part_back : (xs d : List ℕ) (a n : ℕ)
    → take a xs ++ ((d ++ drop n (take (length xs - a) (drop a xs))) ++ drop (length xs - a) (drop a xs))
    ≡ take a xs ++ (d ++ drop n (drop a xs))
part_back xs d a n =
    let e : length (drop a xs) ≤ length xs - a = omega (arith, length-drop a xs) in
    rw (take_all (length xs - a) (drop a xs) e, drop_of_length-le (drop a xs) e, append-nil)

-- the same where r stands before that part
pub part_back_behind : (r d xs ys : List ℕ) (a n : ℕ) → length r ≡ a → xs ≡ r ++ drop a ys
    → take a xs ++ ((d ++ drop n (take (length xs - a) (drop a xs))) ++ drop (length xs - a) (drop a xs)) ≡ (r ++ d) ++ drop (a + n) ys
part_back_behind r d xs ys a n e g =
    part_back xs d a n
    ∙ rw (g, take_at r (drop a ys) a e, drop_at r (drop a ys) a e, drop-drop n a ys, append_assoc r d (drop (a + n) ys))

-- a list from i on, element by element
elements : (n i : ℕ) (l : List ℕ) → length l ≡ i + n → map (λ (k : ℕ). slice_index l k) (from n i) ≡ drop i l
elements zero i l h =
    let e : length l ≤ i = omega arith in
    sym (drop_of_length-le l e)
elements (suc n) i l h =
    let e : i < length l = omega arith in
    rw (drop-cons l i 0 e) (ap (λ (r : List ℕ). slice_index l i ∷ r) (elements n (suc i) l (omega arith)))

-- the whole list, element by element
pub all_elements : (n : ℕ) (l : List ℕ) → length l ≡ n → map (λ (k : ℕ). slice_index l k) (from n 0) ≡ l
all_elements n l h = elements n 0 l (omega arith)

-- a store right behind what is written
pub store_next : (done p : List ℕ) (i v : ℕ) → length done ≡ i → i < length p
    → slice_set (done ++ drop i p) i v ≡ (done ++ (v ∷ [])) ++ drop (i + 1) p
store_next done p i v e h =
    rw (drop-cons p i 0 h, set_at done (slice_index p i) (drop (suc i) p) v i e, add-one, append_assoc)

-- one more of a run of stores, and stores past the end
pub sets_next : (p vs : List ℕ) (k i : ℕ) → i < length vs → sets p k (drop i vs) ≡ sets (slice_set p k (slice_index vs i)) (k + 1) (drop (i + 1) vs)
sets_next p vs k i h = rw (drop-cons vs i 0 h, add-one k, add-one i)

pub sets_out : (p vs : List ℕ) (k : ℕ) → length p ≤ k → sets p k vs ≡ p
sets_out p [] k h = refl
sets_out p (v ∷ vs) k h = rw (set_out p k v h) (sets_out p vs (suc k) (omega arith))
