-- When a workspace holds a list of deposits: a head for each row, then four words a cell, its place, its cover, its area and its links.
-- A link is a number: 0, or one more than a cell's index.
use Rattle.std.specs.Prelude.{◌≡◌, ℕ, zero, suc, ◌+◌, ◌*◌, ◌/◌, ◌%◌, ◌^◌, ◌<◌, ◌≤◌, true, false, cond, List, [], ◌∷◌, nat_eq, nat_lt, slice_index, slice_set}
use Rattle.storage.specs.Deposits.{per_row, Deposit, known, distinct, sum_of, cover_of, area_of}

-- ---- the pool as functions of a cell's index

-- link n stays in the row: it is 0, or names a cell of the row
abbrev pub Named : (ℕ → ℕ) → ℕ → ℕ → ℕ → Type 0
Named place count row zero = Unit {0}
Named place count row (suc j) = (j < count) × (place j / per_row ≡ row)

-- the first place that the link behind n may lead to
abbrev pub low : (ℕ → ℕ) → ℕ → ℕ → ℕ
low place row zero = per_row * row
low place row (suc k) = place k + 1

-- the place that n leads to; the row's end for 0
abbrev pub high : (ℕ → ℕ) → ℕ → ℕ → ℕ
high place row zero = per_row * row + per_row
high place row (suc j) = place j

-- n leads to the first known place of the row from lo on
pub record Link (place : ℕ → ℕ) (count : ℕ) (log : List Deposit) (row lo n : ℕ) : Type 0 where
  pub named : Named place count row n
  pub above : lo ≤ high place row n
  pub gap : (p : ℕ) → lo ≤ p → p < high place row n → known log p ≡ false

-- a cell stands for a stored place, up to column width, and has the sums of all that was stored there
pub record Cell (place cover area : ℕ → ℕ) (width : ℕ) (log : List Deposit) (k : ℕ) : Type 0 where
  pub given : known log (place k) ≡ true
  pub cover_sum : cover k ≡ sum_of cover_of (nat_eq (place k)) log
  pub area_sum : area k ≡ sum_of area_of (nat_eq (place k)) log
  pub column : place k % per_row ≤ width

-- the pool holds the log: a row's links lead from each of its known places to the next, no two cells stand for one place, and there are as many
-- cells as distinct places
pub record Pool (place cover area : ℕ → ℕ) (link : ℕ → ℕ → ℕ) (rows width count : ℕ) (log : List Deposit) : Type 0 where
  pub links : (row last : ℕ) → row < rows → Named place count row last → Link place count log row (low place row last) (link row last)
  pub cells : (k : ℕ) → k < count → Cell place cover area width log k
  pub apart : (j k : ℕ) → j < count → k < count → place j ≡ place k → j ≡ k
  pub counted : count ≡ distinct log

-- ---- a word of links

-- a head, or a cell's last word, holds two of 16 bits each: one on to the next cell in its low half, one back in its high half
abbrev pub half : ℕ
half = 65536

abbrev pub next_in : ℕ → ℕ
next_in w = w % half

abbrev pub back_in : ℕ → ℕ
back_in w = w / half

abbrev pub links_of : ℕ → ℕ → ℕ
links_of next back = next + half * back

-- ---- the same, of words

abbrev pub place_at : List ℕ → ℕ → ℕ → ℕ
place_at ws rows k = slice_index ws (rows + 4 * k)

-- the cell's other words
abbrev pub word : List ℕ → ℕ → ℕ → ℕ → ℕ
word ws rows part k = slice_index ws (rows + 4 * k + part)

-- where the links behind n stand: the row's head for 0
abbrev pub link_word : ℕ → ℕ → ℕ → ℕ
link_word rows row zero = row
link_word rows row (suc k) = rows + 4 * k + 3

abbrev pub link_at : List ℕ → ℕ → ℕ → ℕ → ℕ
link_at ws rows row last = next_in (slice_index ws (link_word rows row last))

-- the first count cells of the words hold the log; what the links back are is not said, since nothing but time turns on them
pub record Holds (ws : List ℕ) (rows width count : ℕ) (log : List Deposit) : Type 0 where
  pub pool : Pool (place_at ws rows) (word ws rows 1) (word ws rows 2) (link_at ws rows) rows width count log

-- ---- the ways in which a deposit changes the words
abbrev pub with_sum : List ℕ → ℕ → ℕ → List ℕ
with_sum ws at x = slice_set ws at ((slice_index ws at + x) % 2 ^ 32)

abbrev pub with_pair : List ℕ → ℕ → ℕ → ℕ → List ℕ
with_pair ws at cover area = with_sum (with_sum ws (at + 1) cover) (at + 2) area

abbrev pub with_cell : List ℕ → ℕ → ℕ → ℕ → ℕ → ℕ → List ℕ
with_cell ws at place cover area links = slice_set (slice_set (slice_set (slice_set ws at place) (at + 1) cover) (at + 2) area) (at + 3) links

-- one half of a word of links
abbrev pub with_next : List ℕ → ℕ → ℕ → List ℕ
with_next ws at n = slice_set ws at (links_of n (back_in (slice_index ws at)))

abbrev pub with_back : List ℕ → ℕ → ℕ → List ℕ
with_back ws at n = slice_set ws at (links_of (next_in (slice_index ws at)) n)

-- a new cell behind last and before next: last leads on to it, the head back to it
abbrev pub with_linked : List ℕ → ℕ → ℕ → ℕ → ℕ → ℕ → ℕ → ℕ → List ℕ
with_linked ws rows count row last place cover area =
    let cell = with_cell ws (rows + 4 * count) place cover area (links_of (link_at ws rows row last) last) in
    with_back (with_next cell (link_word rows row last) (count + 1)) row (count + 1)

-- and next back to it, unless the pool has no such cell
abbrev pub with_new : List ℕ → ℕ → ℕ → ℕ → ℕ → ℕ → ℕ → ℕ → List ℕ
with_new ws rows count row last place cover area =
    let linked = with_linked ws rows count row last place cover area in
    let next = link_at ws rows row last in
    cond (nat_lt count next) linked (with_back linked (link_word rows row next) (count + 1))

-- ---- a row's list

-- the columns of the cells that a link leads to, one behind the other, as far as the fuel lasts
unfoldable pub columns : List ℕ → ℕ → ℕ → ℕ → List ℕ
columns ws rows zero n = []
columns ws rows (suc fuel) zero = []
columns ws rows (suc fuel) (suc k) = place_at ws rows k % per_row ∷ columns ws rows fuel (next_in (word ws rows 3 k))

-- each number is at least lo, and above those before it
unfoldable pub Rising : ℕ → List ℕ → Type 0
Rising lo [] = Unit {0}
Rising lo (c ∷ cs) = (lo ≤ c) × Rising (c + 1) cs
