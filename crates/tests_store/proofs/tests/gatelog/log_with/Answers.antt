use Rattle.std.proofs.Common.{◌∷◌, ◌++◌, [], List, ℕ}
use Rattle.tests_store.proofs.tests.gatelog.log_with.Goals as goal

pub append-requires-2 : goal.append-requires-2
append-requires-2 c trusted =
    let none : List (List ℕ) = [] in
    (none ++ c.args.first.now ∷ [], (c.in-Ok-append.ensures.ok trusted none (c.in-Ok.ensures.made trusted).reads).reads)
