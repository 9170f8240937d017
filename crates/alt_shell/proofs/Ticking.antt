-- How a clock in memory tells one moment more.
use Rattle.std.proofs.Common.{◌≡◌, ◌≤◌, ◌+◌, ◌-◌, min, ℕ, zero, suc, List, [], ◌∷◌, ◌++◌, length, take}
use Rattle.std.proofs.Common.{refl, sym, ap, ◌∙◌, append_assoc, append-nil, length-append, arith, subst}
use Rattle.std.specs.Prelude.{replicate}
use Rattle.std.specs.List.{All}
use Rattle.std.proofs.lemmas.List.{length-replicate, replicate-append-replicate}
use Rattle.std.proofs.lemmas.Grind.{flat_map-append}
use Rattle.alt_shell.specs.declared.clock.Told.{Told}
use Rattle.alt_shell.specs.Told.{told_past, told_in}
use Rattle.alt_shell.specs.Log.{with_told, most_told}

-- a front of one moment
front_of_one : (n k r : ℕ) → k ≡ min n 1 → replicate k r ≡ take n (r ∷ [])
front_of_one zero zero r is = refl
front_of_one zero (suc k) r is = absurd (omega (arith, is))
front_of_one (suc n) zero r is = absurd (omega (arith, is))
front_of_one (suc zero) (suc zero) r is = refl
front_of_one (suc (suc n)) (suc zero) r is = refl
front_of_one (suc n) (suc (suc k)) r is = absurd (omega (arith, is))

-- told once more, as long as there is room
once_more : (told : List ℕ) (count more r : ℕ) → count ≡ length told
    → more ≡ min (most_told - count) 1
    → told ++ replicate more r ≡ with_told told (r ∷ [])
once_more told count more r counted is =
    ap (λ (l : List ℕ). told ++ l) (front_of_one (most_told - count) more r is)
    ∙ ap (λ (n : ℕ). told ++ take (most_told - n) (r ∷ [])) counted

-- the last moment again
again : (past : List Told) (times more last : ℕ)
    → told_in past (times + more) last ≡ told_in past times last ++ replicate more last
again past times more last =
    ap (λ (l : List ℕ). told_past past ++ l) (sym (replicate-append-replicate times more last))
    ∙ sym (append_assoc (told_past past) (replicate times last) (replicate more last))

-- another moment
another : (past new : List Told) (times last more r : ℕ)
    → new ≡ past ++ record { moment = last; times = times } ∷ []
    → told_in new more r ≡ told_in past times last ++ replicate more r
another past new times last more r is =
    ap (λ (l : List ℕ). l ++ replicate more r)
    (ap told_past is ∙ flat_map-append (λ (t : Told). replicate t.times t.moment) past
    (record { moment = last; times = times } ∷ [])
    ∙ ap (λ (l : List ℕ). told_past past ++ l) (append-nil (replicate times last)))

-- the last moment told again
pub tell_again : (past : List Told) (count times more last : ℕ)
    → count ≡ length (told_in past times last)
    → more ≡ min (most_told - count) 1
    → told_in past (times + more) last ≡ with_told (told_in past times last) (last ∷ [])
tell_again past count times more last counted is =
    again past times more last ∙ once_more (told_in past times last) count more last counted is

-- another one told
pub tell_another : (past new : List Told) (count times last more r : ℕ)
    → new ≡ past ++ record { moment = last; times = times } ∷ []
    → count ≡ length (told_in past times last) → more ≡ min (most_told - count) 1
    → told_in new more r ≡ with_told (told_in past times last) (r ∷ [])
tell_another past new count times last more r is counted is_more =
    another past new times last more r is ∙ once_more
    (told_in past times last) count more r counted is_more

-- the count after it
pub count_again : (past : List Told) (count times more last : ℕ)
    → count ≡ length (told_in past times last)
    → count + more ≡ length (told_in past (times + more) last)
count_again past count times more last counted =
    omega (
      arith,
      counted,
      ap length (again past times more last),
      length-append (told_in past times last) (replicate more last),
      length-replicate more last,
    )

-- and after another one
pub count_another : (past new : List Told) (count times last more r : ℕ)
    → new ≡ past ++ record { moment = last; times = times } ∷ []
    → count ≡ length (told_in past times last) → count + more ≡ length (told_in new more r)
count_another past new count times last more r is counted =
    omega (
      arith,
      counted,
      ap length (another past new times last more r is),
      length-append (told_in past times last) (replicate more r),
      length-replicate more r,
    )

-- the last moment was told at most as often as all were
pub times_within : (past : List Told) (times last : ℕ) → times ≤ length (told_in past times last)
times_within past times last =
    omega (
      arith,
      length-append (told_past past) (replicate times last),
      length-replicate times last,
    )

-- what holds of each moment holds of each behind the first
pub all_behind : (P : ℕ → Type 0) (ts : List ℕ) (t : ℕ) (rest : List ℕ) → ts ≡ t ∷ rest → All P ts
    → All P rest
all_behind P ts t rest is all =
    let here : All P (t ∷ rest) = subst (All P) is all in
    λ k d less. here (suc k) d (omega (arith, less))
