-- The file of the segment that a write makes behind one of the first form, beside the first file that work makes.
use Rattle.std.proofs.Common.{◌≡◌, ◌<◌, ◌≤◌, ◌+◌, ◌-◌, ◌^◌, ℕ, refl, arith}
use Rattle.alt_gatelog.specs.declared.form.Form.{Form}
use Rattle.alt_gatelog.specs.declared.form.Form.TheVariants.{One, Two}
use Rattle.alt_hand.specs.InHand.{WantsFile, files_made}

-- a write makes one file at most
pub files_made-few : (form : Form) → files_made form ≤ 1
files_made-few One = let made : files_made One ≡ 1 = refl in omega (arith, made)
files_made-few Two = let made : files_made Two ≡ 0 = refl in omega (arith, made)

-- a file that a write wants and can't have is the last one, and work has none either
pub wants-last : (form : Form) (next n : ℕ) → WantsFile form next n
    → (n ≡ 2 ^ 32 - 1) × (2 ^ 32 ≤ next + files_made form)
wants-last One next n wants =
    let low = wants.0 in
    let made : files_made One ≡ 1 = refl in (wants.2, omega (arith, low, made))
wants-last Two next n wants = absurd wants

-- where it can be had, work has one too
pub has-file : (form : Form) (next : ℕ) → (form ≡ One → next < 2 ^ 32 - 1) → next < 2 ^ 32
    → next + files_made form < 2 ^ 32
has-file One next room fits =
    let free = room refl in
    let made : files_made One ≡ 1 = refl in omega (arith, free, made)
has-file Two next room fits =
    let made : files_made Two ≡ 0 = refl in omega (arith, fits, made)

-- so none is wanting of those that work has
pub none-wanting : (form : Form) (next n : ℕ) → next + files_made form < 2 ^ 32
    → WantsFile form next n → ⊥
none-wanting form next n room wants =
    let last = wants-last form next n wants in
    let over = last.1 in absurd (omega (arith, room, over))
