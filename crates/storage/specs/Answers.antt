-- The most that a pool has, and what the answers of the walks and of `store` say.
use Rattle.std.specs.Prelude.{ℕ, zero, suc, ◌+◌, ◌<◌, ◌≤◌, Bool, false, cond, List, ◌==◌, nat_le, Option, None, Some}
use Rattle.storage.specs.Deposits.{Deposit, distinct}
use Rattle.storage.specs.Cells.{Named, low, high, place_at, link_at, Holds}

-- the most rows and cells that a pool has
abbrev pub most_rows : ℕ
most_rows = 4096

abbrev pub most_cells : ℕ
most_cells = 16384

-- ---- the two walks along a row's list

-- the walk to a place may start behind n: n is 0, the row's start, or a cell of the row that is not past the place
abbrev pub Upto : (ℕ → ℕ) → ℕ → ℕ → ℕ → ℕ → Type 0
Upto place count row p n = Named place count row n × (low place row n ≤ p + 1)

-- the walk ends behind last: in a pool this is the row's last cell that is not past the place
pub record Sought (ws : List ℕ) (rows count row place last : ℕ) : Type 0 where
  pub within : last ≤ count
  pub so : (width : ℕ) (log : List Deposit) → Holds ws rows width count log
      → Upto (place_at ws rows) count row place last × (place < high (place_at ws rows) row (link_at ws rows row last))

-- whether a link names the cell of a place
abbrev pub is_at : List ℕ → ℕ → ℕ → ℕ → Bool
is_at ws rows place zero = false
is_at ws rows place (suc k) = place_at ws rows k == place

-- ---- store

-- the cells that are told of are the pool's
abbrev pub Within : ℕ → Option ℕ → Type 0
Within cap (Some n) = n ≤ cap
Within cap None = Unit {0}

-- the answer of a log with n distinct places: full exactly when these are more than the pool holds
abbrev pub kept_of : ℕ → ℕ → Option ℕ
kept_of cap n = cond (nat_le n cap) (Some n) None

-- the words hold the log, or the log has more distinct places than the pool holds
abbrev pub Stored : List ℕ → ℕ → ℕ → ℕ → List Deposit → Option ℕ → Type 0
Stored ws rows width cap log (Some n) = Holds ws rows width n log
Stored ws rows width cap log None = cap < distinct log
