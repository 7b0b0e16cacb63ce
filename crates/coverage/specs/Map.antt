-- The coverage map (02, request 06): "one bit per ROM byte in 64 words of 64 bits, ascending from the first word's lowest bit, set where an
-- instruction began, and a summary that counts the set bits".
-- Assumes nothing.
use Rattle.std.specs.Prelude.{ℕ, zero, suc, ◌+◌, ◌*◌, ◌/◌, ◌%◌, ◌^◌, Bool, List, [], ◌∷◌, map, length, get_or, set, replicate, eqb, ltb}
use Rattle.std.specs.Int.Bits.{bit_or}
use Rattle.std.specs.Int.Count.{ones}
use Rattle.base.specs.Choice.{pick, from, count}
use Rattle.base.specs.Lengths.{largest_rom}

-- the words of a map
abbrev pub map_words : ℕ
map_words = 64

abbrev pub is_map_length : ℕ → Bool
is_map_length n = eqb n map_words

-- bit k of a number, the lowest is bit 0
abbrev pub bit_of : ℕ → ℕ → Bool
bit_of x k = eqb (x / 2 ^ k % 2) 1

-- whether an address is marked
unfoldable pub marked : List ℕ → ℕ → Bool
marked m a = bit_of (get_or m (a / 64) 0) (a % 64)

-- whether a map of any length has a bit for an address
abbrev pub inside : List ℕ → ℕ → Bool
inside m a = ltb (a / 64) (length m)

-- with the mark of an address, where the map has a bit for it
unfoldable pub with_mark : List ℕ → ℕ → List ℕ
with_mark m a = pick (inside m a) (set m (a / 64) (bit_or (get_or m (a / 64) 0) (2 ^ (a % 64)))) m

-- the number of n bits that a test gives of the addresses from a on, the lowest first
unfoldable pub bits_from : ℕ → (ℕ → Bool) → ℕ → ℕ
bits_from zero f a = 0
bits_from (suc n) f a = pick (f a) 1 0 + bits_from n f (a + 1) * 2

-- the map that marks the addresses of ROM that pass a test, and no others
unfoldable pub map_of : (ℕ → Bool) → List ℕ
map_of f = map (λ w. bits_from 64 f (64 * w)) (from map_words 0)

-- the map that marks nothing
unfoldable pub empty_map : List ℕ
empty_map = replicate map_words 0

-- two maps joined, word by word
unfoldable pub joined : List ℕ → List ℕ → List ℕ
joined m n = map (λ w. bit_or (get_or m w 0) (get_or n w 0)) (from map_words 0)

-- "the number of distinct marked addresses"
unfoldable pub marked_count : List ℕ → ℕ
marked_count m = count (marked m) (from largest_rom 0)

-- the set bits of the words, word by word
unfoldable pub set_bits : List ℕ → ℕ
set_bits [] = 0
set_bits (w ∷ r) = ones w + set_bits r
