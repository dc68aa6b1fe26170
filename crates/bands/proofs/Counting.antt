-- The bands counted one after the other: those before the row `at` fit and have so many cells.
use Prim.Native.Nat.{ℕ, ◌+◌, ◌*◌, ◌-◌, ◌≤◌, ◌<◌}
use mathlib.Core.Path.{◌≡◌, refl, sym, ap, ◌∙◌}
use mathlib.Core.Bool.{true, false}
use mathlib.Core.List.{List}
use native.Mathlib.Omega.{arith}
use lib.ListN.{length}
use borrow.Author.Tests.{lt-ltb, le-ltb}
use Rattle.storage.specs.Deposits.{distinct}
use Rattle.storage.specs.Answers.{most_cells}
use Rattle.storage.specs.Cells.{Holds}
use Rattle.command.specs.declared.Command.{Command}
use Rattle.std.specs.Prelude.{Result, Ok, Err}
use Rattle.path.specs.declared.Overfull.{Overfull}
use Rattle.path.specs.Storing.{overfull}
use Rattle.label.specs.declared.Label.{Label}
use Rattle.label.specs.Checks.{rows}
use Rattle.label.specs.Draw.{pool_of, log_of, too_many, room_for}
use Rattle.label.specs.Inking.{Sized, Poured}
use Rattle.claims.specs.Parts.{band}
use Rattle.claims.specs.Bands.{band_of}
use Rattle.bands.specs.InBands.{band_end, too_many_from, too_many_in_band, room_from, room_in_band}
use Rattle.bands.specs.Steps.{Reads, Counted}
use Rattle.bands.proofs.Cells.{more_cells, no_cells, all_cells}
use Rattle.bands.proofs.Rows.{none_behind, one_band, one_room}

pub record Counting (l : Label) (step : ℕ) (s : List ℕ) (words at total : ℕ) : Type 0 where
  pub from : l.first ≤ at
  pub to : at ≤ l.end
  pub few : total ≤ most_cells * (at - l.first)
  pub fuel : ℕ
  pub enough : l.end - at ≤ fuel
  pub same : (cs : List Command) → Reads l s cs → too_many_in_band step l words cs ≡ too_many_from fuel step l words cs at
  pub named : (cs : List Command) → Reads l s cs → room_in_band step l words cs ≡ room_from fuel step l words cs at
  pub counted : (cs : List Command) → Reads l s cs → total ≡ distinct (band 0 (at - l.first) (log_of l cs))

module _ (l : Label) (z : Sized l) (step : ℕ) (s : List ℕ) (words : ℕ) where
  pub counting_none : Counting l step s words l.first 0
  counting_none = record {
    from = omega arith;
    to = z.ordered;
    few = omega arith;
    fuel = rows l;
    enough = omega arith;
    same = λ cs e. refl;
    named = λ cs e. refl;
    counted = λ cs e. sym (no_cells l z cs);
  }

  module _ (positive : 0 < step) (at total : ℕ) (C : Counting l step s words at total) (inner : at < l.end) where
    abbrev next : ℕ
    next = band_end step at l.end

    abbrev own : Label
    own = band_of l at next

    module _ (before after : List ℕ) (k : Result ℕ Overfull) (long : length before ≡ words) (P : Poured own s before after k) where
      -- a band that does not fit
      module _ (i : ℕ) (f : k ≡ Err (overfull i)) where
        runs_out_is : (cs : List Command) → Reads l s cs → (pool_of own words < distinct (log_of own cs)) × (i ≡ room_for own words cs)
        runs_out_is cs e = rw (f, long) at (P.stored cs e)

        yes : (cs : List Command) → Reads l s cs → too_many own words cs ≡ true
        yes cs e = lt-ltb _ _ (runs_out_is cs e).0

        early : i ≤ length s
        early = rw f at P.within

        same_index : (i' : ℕ) → ◌≡◌ {A = Result ℕ Overfull} (Err (overfull i)) (Err (overfull i')) → i' ≡ i
        same_index i' e = sym (ap index e)
          where
            index : Result ℕ Overfull → ℕ
            index (Ok n) = n
            index (Err full) = full.«record»

        pub counted_full : Counted l step s words (Err (overfull i))
        counted_full = record {
          full = λ i' q cs e.
              C.same cs e ∙ one_band l step words cs at inner C.fuel (omega (arith, C.enough)) ∙ rw (yes cs e);
          named = λ i' q cs e.
              same_index i' q ∙ (runs_out_is cs e).1
              ∙ sym (C.named cs e ∙ one_room l step words cs at inner C.fuel (omega (arith, C.enough)) ∙ rw (yes cs e));
          early = λ i' q. let p = same_index i' q in omega (arith, early);
          fit = λ n e. absurd (let z : ◌≡◌ {A = ℕ} 0 1 = cc in omega arith);
          counted = λ n e. absurd (let z : ◌≡◌ {A = ℕ} 0 1 = cc in omega arith);
          few = λ n e. absurd (let z : ◌≡◌ {A = ℕ} 0 1 = cc in omega arith);
        }

      -- a band that fits
      module _ (n : ℕ) (f : k ≡ Ok n) where
        holds : (cs : List Command) → Reads l s cs → Holds after (rows own) l.width n (log_of own cs)
        holds cs e = rw f at (P.stored cs e)

        count : (cs : List Command) → Reads l s cs → n ≡ distinct (log_of own cs)
        count cs e = (holds cs e).pool.counted

        small : n ≤ pool_of own words
        small = rw (f, long) at P.within

        it_fits : (cs : List Command) → Reads l s cs → too_many own words cs ≡ false
        it_fits cs e = let c = count cs e in le-ltb _ _ (rw c at small)

        pub counting_more : Counting l step s words (band_end step at l.end) (total + n)
        counting_more = record {
          from = omega (arith, C.from);
          to = omega arith;
          few = omega (arith, C.few, C.from, small);
          fuel = C.fuel - 1;
          enough = omega (arith, C.enough);
          same = λ cs e. C.same cs e ∙ one_band l step words cs at inner C.fuel (omega (arith, C.enough)) ∙ rw (it_fits cs e);
          named = λ cs e. C.named cs e ∙ one_room l step words cs at inner C.fuel (omega (arith, C.enough)) ∙ rw (it_fits cs e);
          counted = λ cs e.
              let a = C.counted cs e in
              let b = count cs e in
              let c = more_cells l z cs at next C.from (omega arith) (omega arith) in
              omega arith;
        }

  module _ (at total : ℕ) (C : Counting l step s words at total) (over : l.end ≤ at) where
    at_end : at ≡ l.end
    at_end = omega (arith, C.to)

    pub counted_all : Counted l step s words (Ok total)
    counted_all = record {
      full = λ i e. absurd (let z : ◌≡◌ {A = ℕ} 0 1 = cc in omega arith);
      named = λ i e. absurd (let z : ◌≡◌ {A = ℕ} 0 1 = cc in omega arith);
      early = λ i e. absurd (let z : ◌≡◌ {A = ℕ} 0 1 = cc in omega arith);
      fit = λ n e cs r. C.same cs r ∙ none_behind l step words cs at over C.fuel;
      counted = λ n e cs r. same_count n e ∙ C.counted cs r ∙ ap (λ (k : ℕ). distinct (band 0 (k - l.first) (log_of l cs))) at_end ∙ all_cells l z cs;
      few = λ n e. let q = same_count n e in omega (arith, C.few, C.to, C.from, z.inside, z.low);
    }
      where
        same_count : (n : ℕ) → ◌≡◌ {A = Result ℕ Overfull} (Ok total) (Ok n) → n ≡ total
        same_count n e = cc
