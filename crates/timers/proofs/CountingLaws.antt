-- Laws of Timer 0's count after any number of ticks, in closed form: the first match, then one each turn.
-- Assumes nothing.
use Rattle.std.specs.Prelude.{ℕ, zero, suc, ◌+◌, ◌-◌, ◌%◌, ◌≤◌, ◌<◌, ◌≡◌, refl, Bool, true, false, eqb}
use Rattle.std.proofs.Common.{sym, ◌∙◌, ap, mod-lt, mod-eq_of_lt, ⊎_elim, arith, eq-eqb, ne_eqb, eqb-true}
use Rattle.std.proofs.Math.Nat.{suc-mod, mod_self, zero-mod}
use Rattle.std.proofs.lemmas.Bool.{eqb-false}
use Rattle.base.specs.Choice.{pick}
use Rattle.base.specs.Formula.{le?}
use Rattle.timers.specs.declared.Count.{Count}
use Rattle.timers.specs.Periods.{tick}
use Rattle.timers.specs.Counting.{ticks, first, turn}

-- the first n + 1 ticks that are not yet `first` have not come to the limit
less : (limit c n x : ℕ) → limit < 256 → c < 256 → limit ≤ c → n + 1 < 256 + limit - c → c + n + 1 ≡ x → x % 256 ≡ limit → ⊥
less limit c n x hl hc o h q e = omega arith

more : (limit c n x : ℕ) → limit < 256 → c < limit → n + 1 < limit - c → c + n + 1 ≡ x → x % 256 ≡ limit → ⊥
more limit c n x hl o h q e = omega arith

first_high_lem : (limit c : ℕ) → limit < 256 → c < 256 → limit ≤ c → (limit + 255 - c) % 256 + 1 ≡ 256 + limit - c
first_high_lem limit c hl hc o = omega arith

first_low_lem : (limit c : ℕ) → limit < 256 → c < limit → (limit + 255 - c) % 256 + 1 ≡ limit - c
first_low_lem limit c hl o = omega arith

not_yet : (limit c n : ℕ) → limit < 256 → c < 256 → suc n < first limit c → (c + suc n) % 256 ≡ limit → ⊥
not_yet limit c n hl hc h e =
    ⊎_elim
    (λ (o : limit ≤ c). let f = first_high_lem limit c hl hc o in less limit c n (c + suc n) hl hc o (omega arith) (omega arith) e)
    (λ (o : c < limit). let f = first_low_lem limit c hl o in more limit c n (c + suc n) hl o (omega arith) (omega arith) e)
    (le? limit c)

-- before the first match
pub ticks_before : (limit c n : ℕ) → limit < 256 → c < 256 → n < first limit c
    → ticks limit n (record { count = c; matched = false }) ≡ record { count = (c + n) % 256; matched = false }
unfolding ticks tick
ticks_before limit c zero hd hc h = let z : c ≡ (c + 0) % 256 = omega arith in rw (← z) refl
ticks_before limit c (suc n) hd hc h =
    let i = ticks_before limit c n hd hc (omega arith) in
    let q : ((c + n) % 256 + 1) % 256 ≡ (c + suc n) % 256 = omega arith in
    rw (i, q, ne_eqb _ _ (not_yet limit c n hd hc h)) refl

-- at a match, and after it: the count runs through 0 .. turn - 1
pub ticks_after : (limit c n : ℕ) → limit < 256 → c < 256
    → (r : ℕ) → r < turn limit → (k : ℕ) → ticks limit k (record { count = c; matched = false }) ≡ record { count = r; matched = true }
    → ticks limit (suc k) (record { count = c; matched = false })
    ≡ record { count = pick (eqb (r + 1) (turn limit)) 0 (r + 1); matched = true }
unfolding ticks tick
ticks_after limit c n hl hc r hr k e = rw e (go (eqb (r + 1) (turn limit)) refl)
  where
    go : (b : Bool) → eqb (r + 1) (turn limit) ≡ b
        → ◌≡◌ {A = Count} (pick (eqb ((r + 1) % 256) limit) (record { count = 0; matched = true }) (record { count = (r + 1) % 256; matched = true }))
        (record { count = pick b 0 (r + 1); matched = true })
    go true q =
        let z : r + 1 ≡ turn limit = eqb-true _ _ q in
        let y : (r + 1) % 256 ≡ limit = omega arith in
        rw (eq-eqb _ _ y) refl
    go false q =
        let z : r + 1 ≡ turn limit → ⊥ = eqb-false _ _ q in
        let y : (r + 1) % 256 ≡ limit → ⊥ = λ w. z (omega arith) in
        let x : (r + 1) % 256 ≡ r + 1 = omega arith in
        rw (ne_eqb _ _ y, x) refl

-- the first match
pub ticks_first : (limit c : ℕ) → limit < 256 → c < 256
    → ticks limit (first limit c) (record { count = c; matched = false }) ≡ record { count = 0; matched = true }
unfolding ticks tick
ticks_first limit c hl hc =
    let n = (limit + 255 - c) % 256 in
    let i = ticks_before limit c n hl hc (omega arith) in
    let s : first limit c ≡ suc n = omega arith in
    let y : ((c + n) % 256 + 1) % 256 ≡ limit = omega arith in
    rw s (rw (i, eq-eqb _ _ y) refl)

-- one more modulo m
next_mod : (j m r : ℕ) → j % m ≡ r → 0 < m → r < m → suc j % m ≡ pick (eqb (r + 1) m) 0 (r + 1)
next_mod j m r e p h = suc-mod j m ∙ ap (λ (k : ℕ). suc k % m) e ∙ go (eqb (r + 1) m) refl
  where
    go : (b : Bool) → eqb (r + 1) m ≡ b → suc r % m ≡ pick b 0 (r + 1)
    go true q =
        let z : suc r ≡ m = omega (arith, eqb-true (r + 1) m q) in
        ap (λ (k : ℕ). k % m) z ∙ mod_self m
    go false q =
        let z : suc r < m = omega (arith, eqb-false (r + 1) m q) in
        let y : suc r ≡ r + 1 = omega arith in
        mod-eq_of_lt z ∙ y

-- from the first match on
pub ticks_on : (limit c : ℕ) → limit < 256 → c < 256 → (j : ℕ)
    → ticks limit (j + first limit c) (record { count = c; matched = false }) ≡ record { count = j % turn limit; matched = true }
ticks_on limit c hl hc zero =
    let z : 0 + first limit c ≡ first limit c = omega arith in
    rw (z, ticks_first limit c hl hc, zero-mod (turn limit)) refl
ticks_on limit c hl hc (suc j) =
    let z : suc j + first limit c ≡ suc (j + first limit c) = omega arith in
    let p : 0 < turn limit = omega arith in
    let m = next_mod j (turn limit) (j % turn limit) refl p (mod-lt j p) in
    rw (z, m) (ticks_after limit c 0 hl hc (j % turn limit) (mod-lt j p) (j + first limit c) (ticks_on limit c hl hc j))

-- any number of ticks, once the first match has come
pub ticks_late : (limit c n f m : ℕ) → limit < 256 → c < 256 → f ≡ first limit c → m ≡ turn limit → f ≤ n
    → record { count = (n - f) % m; matched = true } ≡ ticks limit n (record { count = c; matched = false })
ticks_late limit c n f m hl hc ef em h =
    let z : n ≡ n - f + first limit c = omega arith in
    rw em (sym (ap (λ (k : ℕ). ticks limit k (record { count = c; matched = false })) z ∙ ticks_on limit c hl hc (n - f)))
