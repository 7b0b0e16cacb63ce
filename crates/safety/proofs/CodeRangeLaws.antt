-- Request 14: the set that LDC, LDCI and LDCD reach, in the request's words. Rule 24 tests that it lies in ROM, and `load_range` is the least and the
-- greatest of its bytes.
-- Assumes nothing.
use Rattle.std.specs.Prelude.{ℕ, zero, suc, ◌+◌, ◌-◌, ◌*◌, ◌≤◌, ◌<◌, min, max, ◌≡◌, refl, ◌≢◌, length, take, drop}
use Rattle.std.proofs.Common.{sym, subst, ◌∙◌, ap, length-take, length-drop, get_or-take, get_or-drop}
use Rattle.std.proofs.Math.Logic.{inl, inr, ⊎_elim}
use mathlib.Core.List.Memᴰ
use mathlib.Core.List.{List, [], ◌∷◌, Memᴰ}
use Rattle.std.proofs.Math.Nat.{min-eq_left, min-eq_right, max-eq_left, max-eq_right}
use native.Mathlib.Omega.{arith}
use Rattle.std.proofs.Math.ListN.{get_or}
use Rattle.base.specs.declared.RegAddr.{RegAddr}
use Rattle.base.specs.declared.RomAddr.{RomAddr}
use Rattle.base.specs.Cells.{Bytes}
use Rattle.base.specs.Formula.{Holds, same?, le?, eqb_no}
use Rattle.base.specs.Lengths.{largest_rom}
use Rattle.certificate.specs.declared.Range.{Range}
use Rattle.certificate.specs.declared.CodeAccess.{CodeAccess}
use Rattle.certificate.specs.Layout.{Certificate}
use Rattle.certificate.specs.Summaries.{range}
use Rattle.safety.specs.Rules.{ram_end, low, high, claimed, code_in_rom}
use Rattle.safety.specs.CodeRange.{widened, no_byte, rows_from, reached_bytes, load_range}
use Rattle.safety.specs.CodeReach.{Reaches, SetInRom, ReachedByte}

module _ (C : Certificate) (a : ℕ) where
  -- a cell without a claim counts as 0 to 255
  pub unclaimed : (x : ℕ) → x ≢ C.first_cell a → x ≢ C.second_cell a → (low C a x ≡ 0) × (high C a x ≡ 255)
  unfolding low high
  unclaimed x n m = rw (eqb_no n, eqb_no m) (refl, refl)

module _ (C : Certificate) (rom a : ℕ) where
  -- where 24 holds, the whole set lies in ROM
  pub set_in_rom : (p : RegAddr) (up down : ℕ) → Holds (code_in_rom C rom a (CodeAccess.Pair p up down)) → SetInRom C rom a p.0 up down
  set_in_rom p up down h u v e f g i = (omega arith, omega arith)

  -- so every address that is reached does
  pub reached_in_rom : (c : CodeAccess) → Holds (code_in_rom C rom a c) → (t : ℕ) → Reaches C a c t → t < rom
  reached_in_rom CodeAccess.Nothing h t r = absurd r
  reached_in_rom (CodeAccess.Direct d) h t r = omega arith
  reached_in_rom (CodeAccess.Pair p up down) h t r = omega arith

  -- 24 asks no more: it holds where the whole set lies in ROM. The high half is then claimed, since 255 × 256 does not lie there
  pub whole_set_in_rom : rom ≤ largest_rom → (p : RegAddr) (up down : ℕ) → p.0 < ram_end → down < 256
      → low C a p.0 ≤ high C a p.0 → low C a (p.0 + 1) ≤ high C a (p.0 + 1) → SetInRom C rom a p.0 up down
      → Holds (code_in_rom C rom a (CodeAccess.Pair p up down))
  unfolding claimed
  whole_set_in_rom fits p up down r d u v f =
      let first = f (low C a p.0) (low C a (p.0 + 1)) (omega arith) u (omega arith) v in
      let last = f (high C a p.0) (high C a (p.0 + 1)) u (omega arith) v (omega arith) in
      let claim : Holds (claimed C a p.0) = (
        λ z. omega arith,
        ⊎_elim inl (λ n. ⊎_elim inr (λ m. absurd (omega (arith, (unclaimed C a p.0 n m).1))) (same? p.0 (C.second_cell a)))
            (same? p.0 (C.first_cell a)),
      ) in
      (claim, omega arith)

-- `widened` holds its start
widened_start : (q : Range) (bs : List ℕ) → ((widened q bs).least ≤ q.least) × (q.greatest ≤ (widened q bs).greatest)
unfolding widened
widened_start q [] = omega arith
widened_start q (b ∷ bs) = let h = widened_start (range (min q.least b) (max q.greatest b)) bs in omega arith

-- and every byte of the list
widened_holds : {b : ℕ} {bs : List ℕ} (q : Range) → Memᴰ b bs → ((widened q bs).least ≤ b) × (b ≤ (widened q bs).greatest)
unfolding widened
widened_holds q (Memᴰ.head {x} {xs} e) =
    let h = widened_start (range (min q.least x) (max q.greatest x)) xs in
    omega arith
widened_holds q (Memᴰ.tail {x} m) = widened_holds (range (min q.least x) (max q.greatest x)) m

-- what holds of two numbers holds of the least and of the greatest of them
min_max : (P : ℕ → Type 0) (x y : ℕ) → P x → P y → P (min x y) × P (max x y)
min_max P x y p q =
    ⊎_elim (λ (h : x ≤ y). (rw (min-eq_left h) p, rw (max-eq_right h) q))
    (λ (h : y < x). let l : y ≤ x = omega arith in (rw (min-eq_right l) q, rw (max-eq_left l) p)) (le? x y)

-- what holds of an end of the start and of every byte of the list holds of that end
widened_ends : (P Q : ℕ → Type 0) (q : Range) (bs : List ℕ) → P q.least → Q q.greatest → ((b : ℕ) → Memᴰ b bs → P b × Q b)
    → P (widened q bs).least × Q (widened q bs).greatest
unfolding widened
widened_ends P Q q [] l g f = (l, g)
widened_ends P Q q (b ∷ bs) l g f =
    let h = f b (Memᴰ.head refl) in
    widened_ends P Q (range (min q.least b) (max q.greatest b)) bs (min_max P q.least b l h.0).0 (min_max Q q.greatest b g h.1).1 (λ x m. f x (Memᴰ.tail m))

get_d_member : (l : List ℕ) (i : ℕ) → i < length l → Memᴰ (get_or l i 0) l
get_d_member [] i h = absurd (omega arith)
get_d_member (x ∷ l) zero h = Memᴰ.head refl
get_d_member (x ∷ l) (suc i) h = Memᴰ.tail (get_d_member l i (omega arith))

member_get_d : {b : ℕ} {l : List ℕ} → Memᴰ b l → (i : ℕ) × (i < length l) × (get_or l i 0 ≡ b)
member_get_d (Memᴰ.head e) = (0, omega arith, sym e)
member_get_d (Memᴰ.tail m) = let r = member_get_d m in (suc r.0, omega arith, r.2)

-- the rows hold the byte at row i and column j
row_member : (image : List ℕ) (k t n i j s : ℕ) → i < k → j < n → s ≡ t + i * 256 + j → s < length image
    → Memᴰ (get_or image s 0) (rows_from image k t n)
unfolding rows_from
row_member image zero t n i j s hi hj e h = absurd (omega arith)
row_member image (suc k) t n zero j s hi hj e h =
    let f : j < length (take n (drop t image)) = simp (length-take, length-drop) (omega arith) in
    let q : s ≡ t + j = omega arith in
    Memᴰ.append_left _ (Memᴰ.cast (rw (q, get_or-take, get_or-drop)) (get_d_member (take n (drop t image)) j f))
row_member image (suc k) t n (suc i) j s hi hj e h =
    Memᴰ.append_right (take n (drop t image)) (row_member image k (t + 256) n i j s (omega arith) hj (omega arith) h)

-- and no others: what holds of each of those holds of every byte of the rows
row_bytes : (P : ℕ → Type 0) (image : List ℕ) (k t n : ℕ) → ((i j s : ℕ) → i < k → j < n → s ≡ t + i * 256 + j → P (get_or image s 0))
    → {b : ℕ} → Memᴰ b (rows_from image k t n) → P b
unfolding rows_from
row_bytes P image zero t n f m = absurd (Memᴰ.not-nil m)
row_bytes P image (suc k) t n f {b} m =
    ⊎_elim
    (λ (z : Memᴰ b (take n (drop t image))).
    let r = member_get_d z in
    let l : r.0 < n = omega (arith, length-take n (drop t image)) in
    subst P (rw (← get_or-drop, ← get_or-take n) r.2) (f 0 r.0 (t + r.0) (omega arith) l (omega arith)))
    (row_bytes P image k (t + 256) n (λ i j s hi hj e. f (suc i) j s (omega arith) hj (omega arith)))
    (Memᴰ.append_cases (take n (drop t image)) m)

module _ (C : Certificate) (image : List ℕ) (a : ℕ) where
  -- the list of which `load_range` is the range holds, where 24 holds, no byte that is not reached: what holds of each that is holds of all
  each_reached : (P : ℕ → Type 0) (rom : ℕ) (c : CodeAccess) → ((s : ℕ) → (Holds (code_in_rom C rom a c) → Reaches C a c s) → P (get_or image s 0))
      → {b : ℕ} → Memᴰ b (reached_bytes C image a c) → P b
  each_reached P rom CodeAccess.Nothing f m = absurd (Memᴰ.not-nil m)
  each_reached P rom (CodeAccess.Direct d) f m = row_bytes P _ _ _ _ (λ i j s hi hj e. f s (λ h. omega arith)) m
  each_reached P rom (CodeAccess.Pair p up down) f m =
      row_bytes P _ _ _ _ (λ i j s hi hj e. f s (λ h. record {
        upper = low C a p.0 + i;
        lower = low C a (p.0 + 1) + j;
        upper_low = omega arith;
        upper_high = omega arith;
        lower_low = omega arith;
        lower_high = omega arith;
        is = omega arith;
      })) m

  -- the greatest of the range is a byte, also where 24 does not hold
  pub loaded_byte : Bytes image → (c : CodeAccess) → (load_range C image a c).greatest ≤ 255
  unfolding load_range
  loaded_byte bytes c =
      (widened_ends (λ b. Unit {0}) (λ b. b ≤ 255) no_byte _ tt (omega arith)
      (λ b m. (tt, each_reached (λ v. v ≤ 255) 0 c (λ s g. omega (arith, bytes s)) m))).1

module _ (C : Certificate) (rom : ℕ) (image : List ℕ) (a : ℕ) (full : length image ≡ rom) where
  -- the list holds every byte that is reached
  reached_member : (c : CodeAccess) → Holds (code_in_rom C rom a c) → (t : ℕ) → Reaches C a c t → Memᴰ (get_or image t 0) (reached_bytes C image a c)
  reached_member CodeAccess.Nothing h t r = absurd r
  reached_member (CodeAccess.Direct d) h t r = row_member image _ _ _ 0 0 t (omega arith) (omega arith) (omega arith) (omega arith)
  reached_member (CodeAccess.Pair p up down) h t r =
      row_member image _ _ _ (r.upper - low C a p.0) (r.lower - low C a (p.0 + 1)) t (omega arith) (omega arith) (omega arith) (omega arith)

  -- so every byte that is reached lies in the range
  pub loaded_holds : (c : CodeAccess) → Holds (code_in_rom C rom a c) → (t : ℕ) → Reaches C a c t
      → ((load_range C image a c).least ≤ get_or image t 0) × (get_or image t 0 ≤ (load_range C image a c).greatest)
  unfolding load_range
  loaded_holds c h t r = widened_holds no_byte (reached_member c h t r)

  -- the range is no wider: where an address is reached, both its ends are bytes that are reached
  module _ (bytes : Bytes image) (c : CodeAccess) (h : Holds (code_in_rom C rom a c)) (t : ℕ) (r : Reaches C a c t) where
    loaded_ends : ReachedByte C image a c (load_range C image a c).least × ReachedByte C image a c (load_range C image a c).greatest
    unfolding load_range
    loaded_ends =
        let z = loaded_holds c h t r in
        let Byte = ReachedByte C image a c in
        let w = widened_ends (λ v. v ≤ get_or image t 0 → Byte v) (λ v. get_or image t 0 ≤ v → Byte v) no_byte _
        (λ l. (t, (r, omega (arith, bytes t)))) (λ l. (t, (r, omega arith)))
        (λ b m. let v = each_reached C image a Byte rom c (λ s g. (s, (g h, refl))) m in (λ l. v, λ l. v)) in
        (w.0 z.0, w.1 z.1)

    pub loaded_least : ReachedByte C image a c (load_range C image a c).least
    loaded_least = loaded_ends.0

    pub loaded_greatest : ReachedByte C image a c (load_range C image a c).greatest
    loaded_greatest = loaded_ends.1

  -- a direct address reaches its one byte
  pub loaded_direct : Bytes image → (t : RomAddr) → t.0 < rom
      → load_range C image a (CodeAccess.Direct t) ≡ range (get_or image t.0 0) (get_or image t.0 0)
  loaded_direct bytes t h =
      let c = CodeAccess.Direct t in
      let at : (v : ℕ) → ReachedByte C image a c v → v ≡ get_or image t.0 0 = λ v b. sym b.1.1 ∙ ap (λ (s : ℕ). get_or image s 0) b.1.0 in
      ap (λ (l : ℕ). range l (load_range C image a c).greatest) (at _ (loaded_least bytes c h t.0 refl))
      ∙ ap (range (get_or image t.0 0)) (at _ (loaded_greatest bytes c h t.0 refl))
