-- Laws of deposits: one list of them behind another. What is counted and summed does not turn on their order.
use Rattle.std.specs.Prelude.{◌≡◌, ℕ, zero, suc, ◌+◌, ◌%◌, ◌^◌, ◌≤◌, Bool, true, false, not, ◌||◌, T, List, [], ◌∷◌, ◌++◌, ◌==◌, refl}
use Rattle.std.proofs.Common.{sym, ap, ◌∙◌, append_assoc, append-nil, arith, eqb→eq}
use Rattle.std.proofs.Math.Dec.{eqb-zero-suc, eqb-suc-zero, eqb-suc-suc}
use Rattle.storage.specs.Deposits.{Deposit, on, known, distinct, total, sum_of}

-- ---- sums

pub total_append : (f : Deposit → ℕ) (t : ℕ → Bool) (a b : List Deposit) → total f t (a ++ b) ≡ total f t a + total f t b
unfolding total
total_append f t [] b = omega arith
total_append f t (d ∷ a) b = omega (arith, total_append f t a b)

pub sum_total : (f : Deposit → ℕ) (t : ℕ → Bool) (log : List Deposit) → sum_of f t log ≡ total f t log % 2 ^ 32
unfolding sum_of
sum_total f t log = refl

pub sum_append : (f : Deposit → ℕ) (t : ℕ → Bool) (a b : List Deposit) → sum_of f t (a ++ b) ≡ (sum_of f t a + sum_of f t b) % 2 ^ 32
sum_append f t a b = omega (arith, total_append f t a b, sum_total f t a, sum_total f t b, sum_total f t (a ++ b))

-- ---- what is known

pub known_append : (a b : List Deposit) (p : ℕ) → known (a ++ b) p ≡ (known a p || known b p)
unfolding known
known_append [] b p = refl
known_append (d ∷ a) b p = ap (λ (z : Bool). (p == d.place) || z) (known_append a b p) ∙ regroup (p == d.place) (known a p) (known b p)
  where
    regroup : (x y z : Bool) → (x || (y || z)) ≡ ((x || y) || z)
    regroup true y z = refl
    regroup false y z = refl

-- one deposit behind the others
pub known_snoc : (log : List Deposit) (d : Deposit) (p : ℕ) → known (log ++ (d ∷ [])) p ≡ (p == d.place || known log p)
unfolding known
known_snoc log d p = known_append log (d ∷ []) p ∙ turn (known log p) (p == d.place)
  where
    turn : (x y : Bool) → (x || (y || false)) ≡ (y || x)
    turn true true = refl
    turn true false = refl
    turn false true = refl
    turn false false = refl

-- ---- how many places

eqb_sym : (m n : ℕ) → (m == n) ≡ (n == m)
eqb_sym zero zero = refl
eqb_sym zero (suc n) = eqb-zero-suc n ∙ sym (eqb-suc-zero n)
eqb_sym (suc m) zero = eqb-suc-zero m ∙ sym (eqb-zero-suc m)
eqb_sym (suc m) (suc n) = eqb-suc-suc m n ∙ eqb_sym m n ∙ sym (eqb-suc-suc n m)

-- two deposits, in either order: x says that their places are one
swapped : (n : ℕ) (kd ke x : Bool) → (T x → ke ≡ kd) → (n + on (not kd) 1) + on (not (x || ke)) 1 ≡ (n + on (not ke) 1) + on (not (x || kd)) 1
swapped n true true true h = refl
swapped n false false true h = refl
swapped n true false true h = ap (λ (z : Bool). (n + on (not z) 1) + 0) (sym (h tt))
swapped n false true true h = ap (λ (z : Bool). (n + on (not z) 1) + 0) (sym (h tt))
swapped n true true false h = refl
swapped n true false false h = omega arith
swapped n false true false h = omega arith
swapped n false false false h = refl

-- a deposit counts alike in front of the others and behind them
pub distinct_snoc : (log : List Deposit) (d : Deposit) → distinct (log ++ (d ∷ [])) ≡ distinct log + on (not (known log d.place)) 1
unfolding distinct known
distinct_snoc [] d = refl
distinct_snoc (e ∷ log) d =
    ap (λ (z : ℕ). z + on (not (known (log ++ (d ∷ [])) e.place)) 1) (distinct_snoc log d)
    ∙ ap (λ (z : Bool). (distinct log + on (not (known log d.place)) 1) + on (not z) 1) (known_snoc log d e.place)
    ∙ swapped (distinct log) (known log d.place) (known log e.place) (e.place == d.place) (λ t. ap (known log) (eqb→eq e.place d.place t))
    ∙ ap (λ (z : Bool). (distinct log + on (not (known log e.place)) 1) + on (not (z || known log d.place)) 1) (eqb_sym e.place d.place)

-- a place is never lost: a list has at least the distinct places of its front
pub distinct_mono : (a b : List Deposit) → distinct a ≤ distinct (a ++ b)
distinct_mono a [] = rw append-nil (omega arith)
distinct_mono a (d ∷ b) =
    let one : distinct a ≤ distinct (a ++ (d ∷ [])) = omega (arith, distinct_snoc a d) in
    let rest : distinct (a ++ (d ∷ [])) ≤ distinct (a ++ (d ∷ b)) = rw append_assoc at (distinct_mono (a ++ (d ∷ [])) b) in
    omega arith
