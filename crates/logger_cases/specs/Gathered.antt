-- A certificate given by tables: the bytes of each entry, register row and routine row in order. Its parts are the tables'.
-- Assumes nothing.
use Rattle.std.specs.Prelude.{◌≡◌, Bool, ◌&&◌, T, eqb, leb, get_or, drop, replicate}
use Rattle.std.proofs.Math.Path.{refl, ap, fun_ext}
use Rattle.std.proofs.Common.{sym, ◌∙◌, le-leb, drop-drop, take_at, get_or-drop}
use Rattle.std.proofs.Math.Bool.{true, false}
use mathlib.Core.List.{List, [], ◌∷◌, ◌++◌, append_assoc}
use Prim.Native.Nat.{ℕ, zero, suc, ◌+◌, ◌*◌, ◌≤◌, ◌<◌}
use native.Mathlib.Omega.{arith}
use Rattle.std.proofs.Math.Dec.{ltb, ltb→lt}
use Rattle.std.proofs.Math.ListN.{length, take, length-append}
use Rattle.std.proofs.lemmas.List.{length-replicate}
use Rattle.std.proofs.Math.Seq.{drop_at}
use Rattle.base.specs.Choice.{pick, choose}
use Rattle.base.specs.ChoiceLaws.{pick_has, fails, choose_other}
use Rattle.base.specs.Formula.{of_true, sound, test, eq, ◌&◌}
use Rattle.base.specs.Lengths.{largest_rom}
use Rattle.certificate.specs.Layout.{certificate_from, part, certificate_of}

-- what the table f gives for a, a + 1, .., n of them, one behind the other
unfoldable pub gathered : ℕ → ℕ → (ℕ → List ℕ) → List ℕ
gathered zero a f = []
gathered (suc n) a f = f a ++ gathered n (a + 1) f

-- the table up to n
abbrev pub up_to : ℕ → (ℕ → List ℕ) → ℕ → List ℕ
up_to n f k = pick (ltb k n) (f k) []

-- a table by its rows of w bytes each, zeros where none is listed
abbrev pub listed : ℕ → List (ℕ × List ℕ) → ℕ → List ℕ
listed w rows k = choose k rows (replicate w 0)

-- each row has w bytes
abbrev pub fit : ℕ → List (ℕ × List ℕ) → Bool
fit w [] = true
fit w (e ∷ rows) = eqb (length e.1) w && fit w rows

pub listed_length : (w : ℕ) (rows : List (ℕ × List ℕ)) → T (fit w rows) → (k : ℕ) → length (listed w rows k) ≡ w
listed_length w [] t k = length-replicate w 0
listed_length w (e ∷ rows) t k =
    let f = sound (eq (length e.1) w & test (fit w rows)) t in
    pick_has (λ (l : List ℕ). length l ≡ w) (eqb k e.0) e.1 (listed w rows k) (λ _. f.0) (λ _. listed_length w rows (of_true (fit w rows) f.1) k)

-- from n on no row is listed
pub listed_none : (w : ℕ) (rows : List (ℕ × List ℕ)) (n : ℕ) → fails (leb n) rows ≡ true → (k : ℕ) → n ≤ k → listed w rows k ≡ replicate w 0
listed_none w rows n f k h = choose_other (leb n) k rows (replicate w 0) (le-leb n k h) f

module _ (w : ℕ) (f : ℕ → List ℕ) (wide : (k : ℕ) → length (f k) ≡ w) where
  pub gathered_length : (n a : ℕ) → length (gathered n a f) ≡ w * n
  unfolding gathered
  gathered_length zero a = omega arith
  gathered_length (suc n) a =
      let h = gathered_length n (a + 1) in
      let e : w + w * n ≡ w * suc n = omega arith in
      length-append (f a) (gathered n (a + 1) f) ∙ (ap (λ (k : ℕ). k + length (gathered n (a + 1) f)) (wide a) ∙ (ap (λ (k : ℕ). w + k) h ∙ e))

  gathered_part : (n a k : ℕ) (rest : List ℕ) → k < n → take w (drop (w * k) (gathered n a f ++ rest)) ≡ f (a + k)
  unfolding gathered
  gathered_part zero a k rest h = absurd (omega arith)
  gathered_part (suc n) a zero rest h =
      let z : w * 0 ≡ 0 = omega arith in
      let y : a + 0 ≡ a = omega arith in
      rw (z, y, append_assoc) (take_at (f a) (gathered n (a + 1) f ++ rest) w (wide a))
  gathered_part (suc n) a (suc k) rest h =
      let e : w * suc k ≡ w + w * k = omega arith in
      let y : a + suc k ≡ a + 1 + k = omega arith in
      rw (e, y, append_assoc)
      (ap (take w) (sym (drop-drop (w * k) w (f a ++ (gathered n (a + 1) f ++ rest))) ∙ ap (drop (w * k)) (drop_at (f a) (gathered n (a + 1) f ++ rest) w (wide a)))
      ∙ gathered_part n (a + 1) k rest (omega arith))

  pub part_gathered : (n i : ℕ) (b rest : List ℕ) → drop i b ≡ gathered n 0 f ++ rest → part b i w n ≡ up_to n f
  unfolding part
  part_gathered n i b rest e = fun_ext (λ k. go k (ltb k n) refl)
    where
      go : (k : ℕ) (c : Bool) → ltb k n ≡ c → pick c (take w (drop (w * k) (drop i b))) [] ≡ pick c (f k) []
      go k true q =
          let h = ltb→lt k n (of_true (ltb k n) q) in
          let z : 0 + k ≡ k = omega arith in
          ap (λ (l : List ℕ). take w (drop (w * k) l)) e ∙ (gathered_part n 0 k rest h ∙ ap f z)
      go k false q = refl

-- ends: what stands from E480H on, the floor and the top and, in a long certificate, the cycles of an entry
module _ (entry cell row : ℕ → List ℕ) (ends : List ℕ) where
  unfoldable pub certificate_bytes : List ℕ
  certificate_bytes = gathered largest_rom 0 entry ++ (gathered 256 0 cell ++ (gathered 64 0 row ++ ends))

  module _ (entries : (k : ℕ) → length (entry k) ≡ 14) (cells : (k : ℕ) → length (cell k) ≡ 3) (rows : (k : ℕ) → length (row k) ≡ 6) where
    at_cells : drop 0xE000 certificate_bytes ≡ gathered 256 0 cell ++ (gathered 64 0 row ++ ends)
    unfolding certificate_bytes
    at_cells = drop_at (gathered largest_rom 0 entry) (gathered 256 0 cell ++ (gathered 64 0 row ++ ends)) 0xE000 (gathered_length 14 entry entries largest_rom 0)

    at_rows : drop 0xE300 certificate_bytes ≡ gathered 64 0 row ++ ends
    at_rows =
        sym (drop-drop 0x300 0xE000 certificate_bytes)
        ∙ (ap (drop 0x300) at_cells ∙ drop_at (gathered 256 0 cell) (gathered 64 0 row ++ ends) 0x300 (gathered_length 3 cell cells 256 0))

    at_ends : drop 0xE480 certificate_bytes ≡ ends
    at_ends =
        sym (drop-drop 0x180 0xE300 certificate_bytes)
        ∙ (ap (drop 0x180) at_rows ∙ drop_at (gathered 64 0 row) ends 0x180 (gathered_length 6 row rows 64 0))

    pub bytes_length : length certificate_bytes ≡ 0xE480 + length ends
    unfolding certificate_bytes
    bytes_length =
        let a = gathered_length 14 entry entries largest_rom 0 in
        let b = gathered_length 3 cell cells 256 0 in
        let c = gathered_length 6 row rows 64 0 in
        let l1 = length-append (gathered 64 0 row) ends in
        let l2 = length-append (gathered 256 0 cell) (gathered 64 0 row ++ ends) in
        let l3 = length-append (gathered largest_rom 0 entry) (gathered 256 0 cell ++ (gathered 64 0 row ++ ends)) in
        omega arith

    at_entries : drop 0 certificate_bytes ≡ gathered largest_rom 0 entry ++ (gathered 256 0 cell ++ (gathered 64 0 row ++ ends))
    unfolding certificate_bytes
    at_entries = refl

    at_end : (k : ℕ) → get_or certificate_bytes (0xE480 + k) 0 ≡ get_or ends k 0
    at_end k = sym (get_or-drop 0xE480 certificate_bytes k 0) ∙ ap (λ (l : List ℕ). get_or l k 0) at_ends

    -- the certificate of the bytes is the tables'
    pub certificate_is : certificate_of certificate_bytes ≡ certificate_from (up_to largest_rom entry) (up_to 256 cell) (up_to 64 row) (get_or ends 0 0) (get_or ends 1 0) (get_or ends 2 0)
    unfolding certificate_of
    certificate_is =
        rw (
          part_gathered 14 entry entries largest_rom 0 certificate_bytes (gathered 256 0 cell ++ (gathered 64 0 row ++ ends)) at_entries,
          part_gathered 3 cell cells 256 0xE000 certificate_bytes (gathered 64 0 row ++ ends) at_cells,
          part_gathered 6 row rows 64 0xE300 certificate_bytes ends at_rows,
          at_end 0,
          at_end 1,
          at_end 2,
        )
