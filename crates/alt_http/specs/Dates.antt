-- The date of a moment, as text. The calendar and the form are those of httpdate.
use Rattle.std.specs.Prelude.{ℕ, zero, suc, ◌+◌, ◌-◌, ◌/◌, ◌%◌, List, if◌then◌else◌, nat_lt}
use Rattle.httpdate.specs.declared.parts.Parts.{Parts}
use Rattle.httpdate.specs.Calendar.{days_in_year, days_in_month, weekday}
use Rattle.httpdate.specs.Text.{imf_fixdate}

-- Of so many days that have passed since the start of period k, how many of the next n periods
-- are over, counted from k, and the days of the one that isn't.
abbrev pub periods_past : (ℕ → ℕ) → ℕ → ℕ → ℕ → ℕ × ℕ
periods_past days_in zero k days = (k, days)
periods_past days_in (suc n) k days =
    if nat_lt days (days_in k) then (k, days) else periods_past days_in n (suc k) (days - days_in k)

-- the years since 1970 that are over after so many days, up to the year 9999
unfoldable pub years_past : ℕ → ℕ × ℕ
years_past days = periods_past (λ k. days_in_year (1970 + k)) 8030 0 days

-- the months of a year that are over after so many days of it
unfoldable pub months_past : ℕ → ℕ → ℕ × ℕ
months_past year days = periods_past (λ k. days_in_month year (suc k)) 12 0 days

-- the numbers of the date at a second since 1970
unfoldable pub date_parts : ℕ → Parts
date_parts moment =
    let years = years_past (moment / 86400) in
    let months = months_past (1970 + years.0) years.1 in
    record {
      year = 1970 + years.0;
      mon = months.0 + 1;
      day = months.1 + 1;
      hour = moment % 86400 / 3600;
      min = moment % 3600 / 60;
      sec = moment % 60;
      wday = weekday (moment / 86400);
    }

-- the date at a second since 1970, as `Tue, 14 Nov 2023 22:13:20 GMT`
abbrev pub date_at : ℕ → List ℕ
date_at moment = imf_fixdate (date_parts moment)
