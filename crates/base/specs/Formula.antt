-- Rules as formulas: a formula has a truth value, which the checker computes, and a meaning, which proofs use; they agree.
-- Assumes nothing.
use Rattle.std.specs.Prelude.{◌≡◌, ℕ, zero, suc, ◌<◌, ◌≤◌, Bool, true, false, not, ◌&&◌, ◌||◌, T, ◌≢◌, ◌⊎◌, ◌==◌, nat_le, nat_lt, refl}
use Rattle.std.proofs.Common.{sym, subst, ◌∙◌, inl, inr, ⊎_elim, not-suc-le-zero, arith, leb→le, eqb→eq, ltb→lt, le→leb, lt→ltb}
use Rattle.std.proofs.Math.Dec.{nleb→lt, eqb_refl}

infixr 35 ◌&◌
infixr 30 ◌‖◌
infixr 25 ◌⇒◌
pub T_true : (b : Bool) → T b → b ≡ true
T_true true t = refl
T_true false t = absurd t

pub T_false : (b : Bool) → (T b → ⊥) → b ≡ false
T_false true t = absurd (t tt)
T_false false t = refl

pub of_true : (b : Bool) → b ≡ true → T b
of_true b e = subst T (sym e) tt

pub eqb_no : {a b : ℕ} → (a ≢ b) → (a == b) ≡ false
eqb_no {a} {b} h = T_false (a == b) (λ t. h (eqb→eq a b t))

pub eqb_yes : {a b : ℕ} → a ≡ b → (a == b) ≡ true
eqb_yes {a} {b} e = T_true (a == b) (subst (λ (k : ℕ). T (a == k)) e (eqb_refl a))

pub ltb_yes : {a b : ℕ} → a < b → nat_lt a b ≡ true
ltb_yes {a} {b} h = T_true (nat_lt a b) (lt→ltb a b h)

pub ltb_no : {a b : ℕ} → b ≤ a → nat_lt a b ≡ false
ltb_no {a} {b} h = T_false (nat_lt a b) (λ t. let l : a < b = ltb→lt a b t in omega arith)

pub leb_yes : {a b : ℕ} → a ≤ b → nat_le a b ≡ true
leb_yes {a} {b} h = T_true (nat_le a b) (le→leb a b h)

pub case_bool : (b : Bool) → (b ≡ true) ⊎ (b ≡ false)
case_bool true = inl refl
case_bool false = inr refl

pub same? : (a b : ℕ) → (a ≡ b) ⊎ (a ≢ b)
same? a b =
    ⊎_elim (λ e. inl (eqb→eq a b (of_true (a == b) e))) (λ e. inr (λ q. subst T (sym (eqb_yes q) ∙ e) tt)) (case_bool (a == b))

pub le? : (a b : ℕ) → (a ≤ b) ⊎ (b < a)
le? a b =
    ⊎_elim (λ e. inl (leb→le a b (of_true (nat_le a b) e)))
    (λ e. inr (nleb→lt a b (subst (λ (t : Bool). T (not t)) (sym e) tt))) (case_bool (nat_le a b))

-- formulas
pub data Formula : Type 0 where
  always : Formula
  never : Formula
  le : ℕ → ℕ → Formula
  lt : ℕ → ℕ → Formula
  eq : ℕ → ℕ → Formula
  test : Bool → Formula
  neg : Formula → Formula
  ◌&◌ : Formula → Formula → Formula
  ◌‖◌ : Formula → Formula → Formula
  ◌⇒◌ : Formula → Formula → Formula
  forall_below : ℕ → (ℕ → Formula) → Formula

-- a test at each number below n
abbrev pub below : ℕ → (ℕ → Bool) → Bool
below zero f = true
below (suc n) f = f n && below n f

-- the value that is computed
abbrev pub decide : Formula → Bool
decide always = true
decide never = false
decide (le a b) = nat_le a b
decide (lt a b) = nat_lt a b
decide (eq a b) = a == b
decide (test b) = b
decide (neg p) = not (decide p)
decide (p & q) = decide p && decide q
decide (p ‖ q) = decide p || decide q
decide (p ⇒ q) = not (decide p) || decide q
decide (forall_below n f) = below n (λ k. decide (f k))

-- the proposition that it stands for
abbrev pub Holds : Formula → Type 0
Holds always = Unit {0}
Holds never = ⊥
Holds (le a b) = a ≤ b
Holds (lt a b) = a < b
Holds (eq a b) = a ≡ b
Holds (test b) = b ≡ true
Holds (neg p) = Holds p → ⊥
Holds (p & q) = Holds p × Holds q
Holds (p ‖ q) = Holds p ⊎ Holds q
Holds (p ⇒ q) = Holds p → Holds q
Holds (forall_below n f) = (k : ℕ) → k < n → Holds (f k)

and_l : (a b : Bool) → T (a && b) → T a
and_l true b t = tt
and_l false b t = t

and_r : (a b : Bool) → T (a && b) → T b
and_r true b t = t
and_r false b t = absurd t

and_i : (a b : Bool) → T a → T b → T (a && b)
and_i true b ha hb = hb
and_i false b ha hb = ha

imp_e : (b c : Bool) → T (not b || c) → T b → T c
imp_e true c t h = t
imp_e false c t h = absurd h

imp_i : (b c : Bool) → (T b → T c) → T (not b || c)
imp_i true c h = h tt
imp_i false c h = tt

or_l : (a b : Bool) → T a → T (a || b)
or_l true b t = tt
or_l false b t = absurd t

or_r : (a b : Bool) → T b → T (a || b)
or_r true b t = tt
or_r false b t = t

or_e : (a b : Bool) → T (a || b) → T a ⊎ T b
or_e true b t = inl tt
or_e false b t = inr t

neg_i : (a : Bool) → (T a → ⊥) → T (not a)
neg_i true h = absurd (h tt)
neg_i false h = tt

neg_e : (a : Bool) → T (not a) → T a → ⊥
neg_e true h t = h
neg_e false h t = t

below→ : (n : ℕ) (f : ℕ → Bool) → T (below n f) → (k : ℕ) → k < n → T (f k)
below→ zero f t k h = absurd (not-suc-le-zero h)
below→ (suc n) f t k h =
    ⊎_elim (λ (e : k ≡ n). subst (λ (m : ℕ). T (f m)) (sym e) (and_l (f n) (below n f) t))
    (λ (ne : k ≢ n). below→ n f (and_r (f n) (below n f) t) k (omega arith)) (same? k n)

→below : (n : ℕ) (f : ℕ → Bool) → ((k : ℕ) → k < n → T (f k)) → T (below n f)
→below zero f h = tt
→below (suc n) f h = and_i (f n) (below n f) (h n (omega arith)) (→below n f (λ k l. h k (omega arith)))

pub record Agrees (p : Formula) : Type 0 where
  pub sound : T (decide p) → Holds p
  pub full : Holds p → T (decide p)

-- agrees both ways, for every formula
pub agrees : (p : Formula) → Agrees p
agrees always = record { sound = λ t. tt; full = λ m. tt }
agrees never = record { sound = λ t. t; full = λ m. m }
agrees (le a b) = record { sound = leb→le a b; full = le→leb a b }
agrees (lt a b) = record { sound = ltb→lt a b; full = lt→ltb a b }
agrees (eq a b) = record { sound = eqb→eq a b; full = λ e. of_true (a == b) (eqb_yes e) }
agrees (test b) = record { sound = T_true b; full = of_true b }
agrees (neg p) =
    let h = agrees p in
    record { sound = λ t m. neg_e (decide p) t (h.full m); full = λ m. neg_i (decide p) (λ t. m (h.sound t)) }
agrees (p & q) =
    let h = agrees p in
    let k = agrees q in
    record {
      sound = λ t. (h.sound (and_l (decide p) (decide q) t), k.sound (and_r (decide p) (decide q) t));
      full = λ m. and_i (decide p) (decide q) (h.full m.0) (k.full m.1);
    }
agrees (p ‖ q) =
    let h = agrees p in
    let k = agrees q in
    record {
      sound = λ t. ⊎_elim (λ a. inl (h.sound a)) (λ b. inr (k.sound b)) (or_e (decide p) (decide q) t);
      full = λ m. ⊎_elim (λ a. or_l (decide p) (decide q) (h.full a)) (λ b. or_r (decide p) (decide q) (k.full b)) m;
    }
agrees (p ⇒ q) =
    let h = agrees p in
    let k = agrees q in
    record {
      sound = λ t m. k.sound (imp_e (decide p) (decide q) t (h.full m));
      full = λ m. imp_i (decide p) (decide q) (λ t. k.full (m (h.sound t)));
    }
agrees (forall_below n f) =
    record {
      sound = λ t k l. (agrees (f k)).sound (below→ n (λ k. decide (f k)) t k l);
      full = λ m. →below n (λ k. decide (f k)) (λ k l. (agrees (f k)).full (m k l));
    }

pub sound : (p : Formula) → T (decide p) → Holds p
sound p t = (agrees p).sound t

-- the value of a formula, from facts: what the code's answers are shown by
pub decide_yes : (p : Formula) → Holds p → true ≡ decide p
decide_yes p m = sym (T_true (decide p) ((agrees p).full m))

pub decide_no : (p : Formula) → (Holds p → ⊥) → false ≡ decide p
decide_no p m = sym (T_false (decide p) (λ t. m (sound p t)))

pub decide_true : (p : Formula) {b : Bool} → b ≡ decide p → b ≡ true → Holds p
decide_true p {b} e t = sound p (of_true (decide p) (sym e ∙ t))

pub decide_false : (p : Formula) {b : Bool} → b ≡ decide p → b ≡ false → Holds p → ⊥
decide_false p {b} e t m = subst T (decide_yes p m ∙ sym e ∙ t) tt

-- where the left side of an implication holds, its value is that of the right side
pub decide_step : (p q : Formula) {b : Bool} → Holds p → b ≡ decide q → b ≡ decide (p ⇒ q)
decide_step p q {b} m e = rw (sym (decide_yes p m)) e
