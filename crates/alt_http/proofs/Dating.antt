-- The date of a moment is the one that httpdate finds.
use Rattle.std.proofs.Common.{◌≡◌, ◌<◌, ◌≤◌, ◌+◌, ◌-◌, ◌/◌, ℕ, suc, zero, zero-add, add-one, cond, Bool, true, false, refl, sym, ap, subst, ◌∙◌, arith}
use Rattle.std.specs.Prelude.{nat_lt}
use Rattle.std.proofs.lemmas.Bool.Decides.{nat_tests}
use Rattle.httpdate.specs.declared.date.HttpDate.{HttpDate}
use Rattle.httpdate.specs.Calendar.{days_in_year, days_in_month, days_of_years, days_of_months, days_from_civil, weekday}
use Rattle.httpdate.specs.Date.{unix_secs, date_text}
use Rattle.httpdate.specs.Valid.{IsValid, parts_secs}
use Rattle.httpdate.proofs.CalendarLemmas.{days_of_years_closed, days_of_months_all}
use Rattle.httpdate.proofs.Theorems.{date_text_is}
use Rattle.httpdate.proofs.ValidLemmas.{is_valid_complete}
use Rattle.alt_http.specs.Dates.{periods_past, years_past, months_past, date_parts, date_at}

-- how many periods are over, where `days_of` sums them up: they and the days of the next are all days
pub record IsPast (days_in days_of : ℕ → ℕ) (most days : ℕ) (past : ℕ × ℕ) : Type 0 where
  pub sum : days_of past.0 + past.1 ≡ days
  pub within : past.1 < days_in past.0
  pub few : past.0 < most

-- whole periods that have passed, and the days behind them, are told by how many days came before
pub periods_past-is : (days_in days_of : ℕ → ℕ)
    → ((k : ℕ) → days_of (suc k) ≡ days_of k + days_in k) → (n k days : ℕ)
    → days_of k + days < days_of (k + n) → IsPast days_in days_of (k + n) (days_of k + days)
    (periods_past days_in n k days)
periods_past-is days_in days_of step zero k days inside = let same = ap days_of (add_zero k) in
    absurd (omega (arith, same))
  where
    add_zero : (j : ℕ) → j + zero ≡ j
    add_zero j = omega arith
periods_past-is days_in days_of step (suc n) k days inside =
    go (nat_lt days (days_in k)) refl (periods_past-is days_in days_of step n (suc k)
    (days - days_in k))
  where
    go : (t : Bool) → nat_lt days (days_in k) ≡ t
        → (days_of (suc k) + (days - days_in k) < days_of (suc k + n)
        → IsPast days_in days_of (suc k + n) (days_of (suc k) + (days - days_in k))
        (periods_past days_in n (suc k) (days - days_in k)))
        → IsPast days_in days_of (k + suc n) (days_of k + days)
        (periods_past days_in (suc n) k days)
    go true is later =
        let below : days < days_in k = grind (arith, nat_tests) in
        subst (λ (u : Bool). IsPast days_in days_of (k + suc n) (days_of k + days)
        (cond u (k, days) (periods_past days_in n (suc k) (days - days_in k)))) (sym is)
        (record { sum = refl; within = below; few = omega arith })
    go false is later =
        let low : days_in k ≤ days = grind (arith, nat_tests) in
        let one = step k in
        let sum : days_of (suc k) + (days - days_in k) ≡ days_of k + days = omega (arith, one) in
        let end : suc k + n ≡ k + suc n = omega arith in
        let total = ap days_of end in
        let past = later (omega (arith, total)) in
        subst (λ (u : Bool). IsPast days_in days_of (k + suc n) (days_of k + days)
        (cond u (k, days) (periods_past days_in n (suc k) (days - days_in k)))) (sym is)
        (record {
          sum = past.sum ∙ sum;
          within = past.within;
          few = let f = past.few in
              omega arith;
        })

-- the years and the months of the calendar

year_step : (k : ℕ) → days_of_years (suc k) ≡ days_of_years k + days_in_year (1970 + k)
unfolding days_of_years
year_step k = refl

month_step : (year k : ℕ) → days_of_months year (suc k)
    ≡ days_of_months year k + days_in_month year (suc k)
unfolding days_of_months
month_step year k = refl

no_years : days_of_years 0 ≡ 0
unfolding days_of_years
no_years = refl

no_months : (year : ℕ) → days_of_months year 0 ≡ 0
unfolding days_of_months
no_months year = refl

all_years : days_of_years 8030 ≡ 2932897
all_years = let closed : days_of_years 8030 + 134774 ≡ 3067671 = days_of_years_closed 8030 in
    omega (arith, closed)

years_past-is : (days : ℕ) → days < 2932897 → IsPast
    (λ k. days_in_year (1970 + k)) days_of_years 8030 days (years_past days)
unfolding years_past
years_past-is days few =
    let all = all_years in let none = no_years in
    subst (λ (n : ℕ). IsPast (λ k. days_in_year (1970 + k)) days_of_years 8030 n
    (periods_past (λ k. days_in_year (1970 + k)) 8030 0 days))
    (ap (λ (n : ℕ). n + days) no_years ∙ zero-add days)
    (periods_past-is (λ k. days_in_year (1970 + k)) days_of_years year_step 8030 0 days
    (omega (arith, all, none)))

months_past-is : (year days : ℕ) → days < days_in_year year
    → IsPast (λ k. days_in_month year (suc k)) (days_of_months year) 12 days (months_past year days)
unfolding months_past
months_past-is year days few =
    let all = days_of_months_all year in let none = no_months year in
    subst (λ (n : ℕ). IsPast (λ k. days_in_month year (suc k)) (days_of_months year) 12 n
    (periods_past (λ k. days_in_month year (suc k)) 12 0 days))
    (ap (λ (n : ℕ). n + days) (no_months year) ∙ zero-add days)
    (periods_past-is (λ k. days_in_month year (suc k)) (days_of_months year)
    (month_step year) 12 0 days (omega (arith, all, none)))

-- the day of a moment, counted back
day_same : (moment : ℕ) → moment < 253402300800
    → days_from_civil (date_parts moment).year (date_parts moment).mon (date_parts moment).day
    ≡ moment / 86400
unfolding date_parts
day_same moment within =
    let days = moment / 86400 in
    let years = years_past days in
    let first = years_past-is days (omega arith) in
    let months = months_past (1970 + years.0) years.1 in
    let second = months_past-is (1970 + years.0) years.1 first.within in
    let year : (1970 + years.0) - 1970 ≡ years.0 = omega arith in
    let month : (months.0 + 1) - 1 ≡ months.0 = omega arith in
    let y = ap days_of_years year in
    let m = ap (days_of_months (1970 + years.0)) month in
    let a = first.sum in
    let b = second.sum in omega (arith, y, m, a, b)

valid : (moment : ℕ) → moment < 253402300800 → IsValid (date_parts moment)
unfolding date_parts
valid moment within =
    let days = moment / 86400 in
    let years = years_past days in
    let first = years_past-is days (omega arith) in
    let months = months_past (1970 + years.0) years.1 in
    let second = months_past-is (1970 + years.0) years.1 first.within in
    let few = first.few in
    let most = second.few in
    let inside : months.1 < days_in_month (1970 + years.0) (months.0 + 1) =
    subst (λ (k : ℕ). months.1 < days_in_month (1970 + years.0) k)
    (sym (add-one months.0)) second.within in (
      ((omega arith, omega arith), (omega arith, omega arith), (omega arith, omega arith)),
      (omega arith, omega arith, omega arith),
      ap weekday (sym (day_same moment within)),
    )

secs_same : (moment : ℕ) → moment < 253402300800 → parts_secs (date_parts moment) ≡ moment
unfolding date_parts
secs_same moment within = let day = day_same moment within in omega (arith, day)

-- the text of the date that a moment has is the date at the moment
pub date_same : (d : HttpDate) (moment : ℕ) → moment < 253402300800 → unix_secs d ≡ moment
    → date_text d ≡ date_at moment
date_same d moment within is =
    date_text_is d (date_parts moment) (is_valid_complete (date_parts moment) (valid moment within))
    (is ∙ sym (secs_same moment within))
