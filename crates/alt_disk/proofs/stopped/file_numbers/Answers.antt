use Rattle.std.proofs.Common.{◌≡◌, ◌==◌, ◌||◌, ℕ, [], ◌∷◌, refl, arith, List, Vec, true, slice_index_or, ◌∙◌, ap}
use Rattle.std.proofs.lemmas.Result.{IfOk-weaker}
use Rattle.std.proofs.lemmas.Bool.Decides.{nat_tests}
use Rattle.std.specs.BTreeMap.{is_at}
use Rattle.std.specs.BTreeSet.{keys}
use Rattle.std.specs.List.{All, list_any}
use Rattle.std.specs.Ordering.{nat_cmp}
use Rattle.std.specs.declared.alloc.Global.{Global}
use Rattle.alt_disk.specs.declared.made.Made.{Made}
use Rattle.alt_disk.proofs.stopped.file_numbers.Goals as goal

equal_is : (f g : ℕ) → (f == g) ≡ is_at (nat_cmp f) g
equal_is f g = grind (arith, nat_tests)

-- a set's test is that of equal numbers
listed_is : (f : ℕ) (ns : List ℕ) → list_any (λ g. f == g) ns ≡ list_any (is_at (nat_cmp f)) ns
listed_is f [] = refl
listed_is f (n ∷ ns) = λ i. equal_is f n i || listed_is f ns i

pub returns-clause-all : goal.returns-clause-all
returns-clause-all c = IfOk-weaker c.keys_of.result
    (λ (numbers : Vec ℕ Global). numbers.items ≡ keys c.in_ok-set.set)
    (λ (numbers : Vec ℕ Global). All {X = Made}
    (λ made. list_any {X = ℕ} (λ g. made.file == g) numbers.items ≡ true) c.args.calls.now)
    (λ numbers is k d less. ap (λ (l : List ℕ). list_any
    (λ g. (slice_index_or c.args.calls.now k d).file == g) l) is
    ∙ listed_is (slice_index_or c.args.calls.now k d).file (keys c.in_ok-set.set)
    ∙ c.in_ok-set.ensures k d less)
    c.keys_of.ensures.keys
