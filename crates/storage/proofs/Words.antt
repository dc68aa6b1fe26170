-- Laws of words: the two halves of a word of links, and where it stands.
use Rattle.std.proofs.Common.{◌≡◌, ℕ, zero, suc, ◌+◌, ◌*◌, ◌<◌, ◌≤◌, arith}
use Rattle.storage.specs.Cells.{half, next_in, back_in, links_of, link_word}
use Rattle.storage.specs.Answers.{most_cells}

-- ---- the halves of a word of links

pub next_links : (next back : ℕ) → next < half → next_in (links_of next back) ≡ next
next_links next back h = omega arith

pub back_links : (next back : ℕ) → next < half → back_in (links_of next back) ≡ back
back_links next back h = omega arith

-- the link to any cell of the largest pool fits a half
pub link_fits : (n : ℕ) → n ≤ most_cells → n < half
link_fits n h = omega arith

-- ---- where a word of links stands

pub link_word_lt : (rows row count n : ℕ) → row < rows → n ≤ count → link_word rows row n < rows + 4 * count
link_word_lt rows row count zero h g = omega arith
link_word_lt rows row count (suc k) h g = omega arith
