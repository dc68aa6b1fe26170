-- docs/RULES.md, "From cells to a byte".
use Rattle.std.specs.Prelude.{ℕ, ◌+◌, ◌-◌, ◌*◌, ◌/◌, ◌%◌, ◌^◌, min, cond, ◌&&◌, List, ℤ, pos, negsuc, nat_eq, nat_le, nat_lt}
use Rattle.storage.specs.Deposits.{per_row, Deposit, cover_of, area_of, sum_of}
use Rattle.sweep.specs.declared.Fill.{Fill}
use Rattle.sweep.specs.declared.Fill.TheVariants.{NonZero, EvenOdd}

-- v / 512, rounded down: the number before −1 is negsuc 1
abbrev pub shift9 : ℤ → ℤ
shift9 (pos n) = pos (n / 512)
shift9 (negsuc n) = negsuc (n / 512)

-- even-odd: 0 to 255, and back from 255 to 0
abbrev pub folded : ℕ → ℕ
folded r = cond (nat_lt r 256) r (511 - r)

-- nonzero: −v − 1 for a v below 0, and 255 for more; even-odd: by the remainder modulo 512
abbrev pub ruled : Fill → ℤ → ℕ
ruled NonZero (pos n) = min 255 n
ruled NonZero (negsuc n) = min 255 n
ruled EvenOdd (pos n) = folded (n % 512)
ruled EvenOdd (negsuc n) = folded (511 - n % 512)

abbrev pub byte_of : Fill → ℤ → ℕ
byte_of f v = ruled f (shift9 v)

-- the signed number of a 32-bit word
abbrev pub signed : ℕ → ℤ
signed w = cond (nat_lt w (2 ^ 31)) (pos w) (negsuc (2 ^ 32 - 1 - w))

-- the cover of the row's cells as far as x, which stands at column x + 1 counted from column −1
abbrev pub cover_up_to : List Deposit → ℕ → ℕ → ℕ
cover_up_to log row x = sum_of cover_of (λ (p : ℕ). nat_le (per_row * row) p && nat_le p (per_row * row + x + 1)) log

abbrev pub area_at : List Deposit → ℕ → ℕ → ℕ
area_at log row x = sum_of area_of (nat_eq (per_row * row + x + 1)) log

-- v = 512·cover − area, the cover as far as x and the area at x, as a signed 32-bit number
abbrev pub value : List Deposit → ℕ → ℕ → ℤ
value log row x = signed ((512 * cover_up_to log row x + (2 ^ 32 - area_at log row x)) % 2 ^ 32)

unfoldable pub pixel : Fill → List Deposit → ℕ → ℕ → ℕ
unfolding sum_of
pixel f log row x = byte_of f (value log row x)
