-- The difference is taken from 2^32 more.
use Rattle.line.proofs.Pairs.{word_sub}
use Rattle.line.proofs.word_of.Goals as goal

pub returns : goal.returns
returns c = word_sub _ _ c.requires.a_small c.requires.b_small
