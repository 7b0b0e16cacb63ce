-- From every seed other than 0 each of the five requests occurs within the first 32 records: a round is linear over XOR, and a table recovers the seed
-- from one bit of 32 records. If that bit were 0 in all of them, the seed would be 0.
-- Assumes nothing.
use Rattle.std.specs.Prelude.{ℕ, zero, suc, ◌-◌, ◌*◌, ◌/◌, ◌%◌, ◌^◌, ◌≤◌, ◌<◌, ◌≡◌, refl, ◌≢◌, List, [], ◌∷◌, map, get_or, drop}
use Rattle.std.proofs.Common.{sym, ap, ap₂, ◌∙◌, ⊎_elim, add-zero, one-mul, arith, pow_pos}
use Rattle.std.specs.Int.Bits.{bit_and, bit_xor, xor_self, xor_shifted, xor_zero_r}
use Rattle.std.proofs.lemmas.Nat.{and_mask, xor_block, xor_mod, xor_shr}
use Rattle.base.specs.Bits.{xor_exchange}
use Rattle.base.specs.Choice.{from}
use Rattle.base.specs.Formula.{le?, same?}
use Rattle.base.specs.Table.{agree}
use Rattle.xorshift.specs.Xorshift.{xor_left, xor_right, round, next_state, record_from, state_after}

-- f is linear over XOR
record Linear (f : ℕ → ℕ) : Type 0 where
  through : (a b : ℕ) → f (bit_xor a b) ≡ bit_xor (f a) (f b)

-- one such function after another, and the XOR of two
after : {f g : ℕ → ℕ} → Linear f → Linear g → Linear (λ (x : ℕ). f (g x))
after {f} {g} p q = record { through = λ a b. ap f (q.through a b) ∙ p.through (g a) (g b) }

both : {f g : ℕ → ℕ} → Linear f → Linear g → Linear (λ (x : ℕ). bit_xor (f x) (g x))
both {f} {g} p q = record { through = λ a b. ap₂ bit_xor (p.through a b) (q.through a b) ∙ xor_exchange (f a) (f b) (g a) (g b) }

-- shifts and masks
same : Linear (λ (x : ℕ). x)
same = record { through = λ a b. refl }

left : (k : ℕ) → Linear (λ (x : ℕ). x * 2 ^ k)
left k = record { through = λ a b. sym (simp add-zero at (xor_block k a b 0 0 (pow_pos k) (pow_pos k))) }

right : (k : ℕ) → Linear (λ (x : ℕ). x / 2 ^ k)
right k = record { through = λ a b. xor_shr a b k }

low : (k : ℕ) → Linear (λ (x : ℕ). x % 2 ^ k)
low k = record { through = λ a b. xor_mod a b k }

mask : (k : ℕ) → Linear (λ (x : ℕ). bit_and x (2 ^ k - 1))
mask k = record { through = λ a b. rw (and_mask (bit_xor a b) k, and_mask a k, and_mask b k) (xor_mod a b k) }

xor_left_lem : (k : ℕ) → Linear (xor_left k)
xor_left_lem k = both same (after (low 32) (left k))

xor_right_lem : (k : ℕ) → Linear (xor_right k)
xor_right_lem k = both same (right k)

round_linear : Linear round
unfolding round
round_linear = after (xor_left_lem 5) (after (xor_right_lem 17) (xor_left_lem 13))

-- byte 0 of the record from a state, and of each of n records
abbrev requests : ℕ → ℕ
requests x = get_or (record_from x) 0 0

requests_from : ℕ → ℕ → List ℕ
requests_from zero x = []
requests_from (suc n) x = requests x ∷ requests_from n (next_state x)

requests_linear : Linear requests
unfolding record_from
requests_linear = after (mask 5) (after (low 8) (after (right 0) round_linear))

abbrev bit : ℕ → ℕ → ℕ
bit i r = r / 2 ^ i % 2

-- t where a bit is 1
abbrev part : ℕ → ℕ → ℕ
part t zero = 0
part t (suc p) = t

part_xor : (t p q : ℕ) → p < 2 → q < 2 → part t (bit_xor p q) ≡ bit_xor (part t p) (part t q)
part_xor t zero q h g = refl
part_xor t (suc p) zero h g = rw (xor_zero_r (suc p), xor_zero_r t)
part_xor t (suc p) (suc q) h g =
    let z : (p ≡ 0) × (q ≡ 0) = omega arith in
    rw (z.0, z.1, xor_self t)

part_linear : (i t : ℕ) → Linear (λ (r : ℕ). part t (bit i r))
part_linear i t = record {
  through = λ a b. ap (part t) ((after (low 1) (right i)).through a b) ∙ part_xor t (bit i a) (bit i b) (omega arith) (omega arith);
}

-- the XOR of the numbers ts at those rs that have bit i
recover : ℕ → List ℕ → List ℕ → ℕ
recover i ts [] = 0
recover i ts (r ∷ rs) = bit_xor (part (get_or ts 0 0) (bit i r)) (recover i (drop 1 ts) rs)

recover_linear : (i n : ℕ) (ts : List ℕ) → Linear (λ (x : ℕ). recover i ts (requests_from n x))
unfolding recover requests_from
recover_linear i zero ts = record { through = λ a b. refl }
recover_linear i (suc n) ts =
    both (after (part_linear i (get_or ts 0 0)) requests_linear) (after (recover_linear i n (drop 1 ts)) (after round_linear round_linear))

-- where it is not 0, one of the n records has bit i
found : (i n : ℕ) (ts : List ℕ) (x : ℕ) → recover i ts (requests_from n x) ≢ 0 → (k : ℕ) × (k < n) × (bit i (requests (state_after k x)) ≡ 1)
unfolding recover requests_from state_after
found i zero ts x ne = absurd (ne refl)
found i (suc n) ts x ne =
    ⊎_elim
    (λ (z : bit i (requests x) ≡ 0). let o = found i n (drop 1 ts) (next_state x) (rw z at ne) in (suc o.0, omega arith, o.2))
    (λ (o : bit i (requests x) ≢ 0). (0, omega arith, omega arith)) (same? (bit i (requests x)) 0)

-- a linear function that keeps each power of 2 below 2 ^ w keeps each number below it
kept : {f : ℕ → ℕ} → Linear f → (w : ℕ) → ((b : ℕ) → b < w → f (2 ^ b) ≡ 2 ^ b) → (x : ℕ) → x < 2 ^ w → f x ≡ x
kept {f} l zero p x h =
    let z : x ≡ 0 = omega arith in
    rw z (l.through 0 0 ∙ xor_self (f 0))
kept {f} l (suc w) p x h =
    let below = kept l w (λ (b : ℕ) (g : b < w). p b (omega arith)) in
    ⊎_elim
    (λ (g : 2 ^ w ≤ x).
    let r = x - 2 ^ w in
    let s : bit_xor (2 ^ w) r ≡ x = rw one-mul at (xor_shifted 1 w r (omega arith)) ∙ omega arith in
    rw (← s) (l.through (2 ^ w) r ∙ ap₂ bit_xor (p w (omega arith)) (below r (omega arith))))
    (below x) (le? (2 ^ w) x)

-- for each request the numbers that recover a seed
tables : List (List ℕ)
tables =
    (2774356062 ∷ 2310679792 ∷ 2771905654 ∷ 1597223514 ∷ 615122928 ∷ 3908499111 ∷ 3603300990 ∷ 3626291204 ∷ 2336835040 ∷ 178612322 ∷ 2810181904 ∷
    25432913 ∷ 1465299730 ∷ 1154799537 ∷ 881547762 ∷ 1399837876 ∷ 4251371476 ∷ 3030022066 ∷ 2927930338 ∷ 100987765 ∷ 698675272 ∷ 831044721 ∷
    1216420196 ∷ 3075396515 ∷ 3538789213 ∷ 1667697449 ∷ 4005898116 ∷ 3415836000 ∷ 1581639957 ∷ 3121270735 ∷ 63131599 ∷ 2104581442 ∷ []) ∷
    (742402793 ∷ 1044770109 ∷ 1176633628 ∷ 441377084 ∷ 1655077605 ∷ 3093404199 ∷ 2720828832 ∷ 613392612 ∷ 3323204837 ∷ 265792689 ∷ 1817647353 ∷
    591123070 ∷ 1482448440 ∷ 4275657895 ∷ 4191736860 ∷ 3352597564 ∷ 1667068256 ∷ 294656977 ∷ 3558846588 ∷ 2724875770 ∷ 4137907840 ∷ 1315060527 ∷
    1223751441 ∷ 726337195 ∷ 2420715002 ∷ 377608167 ∷ 1348790820 ∷ 1520835321 ∷ 844153514 ∷ 1331283066 ∷ 4054933243 ∷ 3441755376 ∷ []) ∷
    (3927666080 ∷ 1441341529 ∷ 2526090403 ∷ 1063298608 ∷ 2765610497 ∷ 3296294159 ∷ 972470808 ∷ 3260897907 ∷ 4109911411 ∷ 393289529 ∷ 3451347986 ∷
    1934031086 ∷ 4076275881 ∷ 462358687 ∷ 2515439818 ∷ 1039325961 ∷ 3551869827 ∷ 1863882451 ∷ 3639144529 ∷ 3617307182 ∷ 1589135449 ∷ 3081221620 ∷
    718497042 ∷ 729806502 ∷ 1674976077 ∷ 2747667055 ∷ 903247361 ∷ 3106350619 ∷ 2486999302 ∷ 3460856718 ∷ 3090320503 ∷ 3847938267 ∷ []) ∷
    (2720740772 ∷ 2972172336 ∷ 1567845574 ∷ 1869903521 ∷ 635203824 ∷ 3478313007 ∷ 1317770818 ∷ 543850804 ∷ 3969060788 ∷ 3574488391 ∷ 4094360180 ∷
    1026739726 ∷ 4075191815 ∷ 2801697869 ∷ 3643406116 ∷ 2628674641 ∷ 3563336471 ∷ 682379810 ∷ 3148822323 ∷ 4016871372 ∷ 2844701699 ∷ 1480005195 ∷
    1053541749 ∷ 3174775613 ∷ 1391504953 ∷ 3661631128 ∷ 2900031140 ∷ 2232390514 ∷ 2909913960 ∷ 1742986136 ∷ 2525821097 ∷ 3031581105 ∷ []) ∷
    (193857387 ∷ 832275017 ∷ 1869358912 ∷ 4163573157 ∷ 2209173867 ∷ 1198927890 ∷ 2808118532 ∷ 2033253870 ∷ 1331927918 ∷ 3610092461 ∷ 2420608202 ∷
    148624858 ∷ 3079114380 ∷ 1518516095 ∷ 3523450977 ∷ 2287132268 ∷ 2806184522 ∷ 3104617696 ∷ 736266021 ∷ 2804774942 ∷ 880608072 ∷ 574697873 ∷
    4019435754 ∷ 4071981660 ∷ 934129208 ∷ 2381519540 ∷ 836568292 ∷ 559032015 ∷ 3576425042 ∷ 1784724060 ∷ 1196201371 ∷ 1245679554 ∷ []) ∷ []

abbrev table : ℕ → List ℕ
table i = get_or tables i []

-- a seed recovered by each request; the records are computed once
recover_all : ℕ → List ℕ
recover_all x = let rs = requests_from 32 x in map (λ (i : ℕ). recover i (table i) rs) (from 5 0)

powers_recovered : map (λ (b : ℕ). recover_all (2 ^ b)) (from 32 0) ≡ map (λ (b : ℕ). map (λ (i : ℕ). 2 ^ b) (from 5 0)) (from 32 0)
unfolding recover_all recover requests_from record_from round tables
powers_recovered = refl

power_recovered : (i : ℕ) → i < 5 → (b : ℕ) → b < 32 → recover i (table i) (requests_from 32 (2 ^ b)) ≡ 2 ^ b
unfolding recover_all
power_recovered i h b g =
    agree (λ (j : ℕ). recover j (table j) (requests_from 32 (2 ^ b))) (λ (j : ℕ). 2 ^ b) 0 5
    (agree (λ (c : ℕ). recover_all (2 ^ c)) (λ (c : ℕ). map (λ (j : ℕ). 2 ^ c) (from 5 0)) [] 32 powers_recovered b g) i h

pub each_request : (i x : ℕ) → i < 5 → x < 2 ^ 32 → (x ≡ 0 → ⊥)
    → (k : ℕ) × (k < 32) × (get_or (record_from (state_after k x)) 0 0 / 2 ^ i % 2 ≡ 1)
each_request i x h g ne =
    let e = kept (recover_linear i 32 (table i)) 32 (power_recovered i h) x g in
    found i 32 (table i) x (λ z. ne (sym e ∙ z))
