-- What `store` asks of words, and what it makes of them.
use Rattle.std.specs.Prelude.{◌≡◌, ℕ, ◌+◌, ◌*◌, ◌≤◌, List, [], ◌∷◌, ◌++◌, length, Option}
use Rattle.storage.specs.Deposits.{Deposit, given}
use Rattle.storage.specs.Cells.{Holds}
use Rattle.storage.specs.Answers.{Within, Stored}
use Rattle.storage.specs.declared.limits.Sizes.{Sizes}
use Rattle.storage.specs.declared.Entry.{Entry}

-- the words have room for a pool of the sizes, whatever they hold
pub record Room (words : List ℕ) (sizes : Sizes) : Type 0 where
  pub fits : sizes.rows + 4 * sizes.cap ≤ length words

-- an entry's deposit
abbrev pub given_of : Entry → Deposit
given_of e = given e.row e.column e.cover e.area

-- what `store` makes of words: whatever log they held, they hold it with the entry's pair behind it, or that is too much for the pool
pub record Storing (before after : List ℕ) (sizes : Sizes) (entry : Entry) (r : Option ℕ) : Type 0 where
  pub told : (width : ℕ) (log : List Deposit) → entry.column ≤ width → Holds before sizes.rows width sizes.count log
      → Stored after sizes.rows width sizes.cap (log ++ (given_of entry ∷ [])) r
  pub within : Within sizes.cap r
  pub long : length after ≡ length before

-- the same of a run of deposits, at one width
pub record Deposited (before after : List ℕ) (rows width cap count : ℕ) (ds : List Deposit) (r : Option ℕ) : Type 0 where
  pub told : (log : List Deposit) → Holds before rows width count log → Stored after rows width cap (log ++ ds) r
  pub within : Within cap r
  pub long : length after ≡ length before
