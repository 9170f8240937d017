-- Test by test.
use Rattle.std.proofs.Common.{◌≡◌, ◌<◌, ℕ, List, length, refl, sym, subst, arith}
use Rattle.std.proofs.lemmas.Bool.Decides.{nat_tests}
use Rattle.std.proofs.lemmas.Result.{IfOk-weaker}
use Rattle.std.specs.List.{AllByRecursion}
use Rattle.alt_manifest.specs.Versions.{AreDistinct, IsVersion, RiseFrom, files_named}
use Rattle.alt_manifest.specs.Rules.{AreFamilies, Reflects}
use Rattle.alt_manifest.proofs.RuleLaws.{tells_no, tells_yes, tells_both, from_families, named_put, is_version}
use Rattle.alt_manifest.proofs.rules.is_version.Goals as goal

pub returns-then-not-are_families : goal.returns-then-not-are_families
returns-then-not-are_families c = λ is.
    let v = c.args.version.now in
    tells_no c.are_families.result
    (AreFamilies v.next_number 0 c.as_slice-families.result.now) c.are_families.ensures
    c.if-not-are_families.true
    (subst (AreFamilies v.next_number 0) (sym c.as_slice-families.ensures)
    (from_families v.next_number 0 v.families is.rising is.families))

pub returns : goal.returns
returns c =
    let v = c.args.version.now in
    let named = c.put_row_files.new.out.items in
    let put : named ≡ files_named v = named_put v c.as_slice-segments.result.now
    c.as_slice-families.result.now c.new-files.result.items c.put_all.new.out.items
    c.put_row_files.new.out.items named c.new-files.ensures.items c.as_slice-segments.ensures
    c.as_slice-families.ensures c.in_ok-put_all.ensures c.in_ok-put_row_files.ensures refl in
    let rise : RiseFrom 2 v.segments = subst (RiseFrom 2) c.as_slice-segments.ensures
    (tells_yes c.rises.result (RiseFrom 2 c.as_slice-segments.result.now) c.rises.ensures
    c.if-not-rises.false) in
    let families : AreFamilies v.next_number 0 v.families =
    subst (AreFamilies v.next_number 0) c.as_slice-families.ensures
    (tells_yes c.are_families.result
    (AreFamilies v.next_number 0 c.as_slice-families.result.now) c.are_families.ensures
    c.if-not-are_families.false) in
    let below : AllByRecursion (λ f. f < v.next_file) named =
    subst (AllByRecursion (λ f. f < v.next_file)) c.as_slice-named.ensures.value
    (tells_yes c.are_below.result
    (AllByRecursion (λ f. f < v.next_file) c.as_slice-named.result.now) c.are_below.ensures
    c.if-not-are_below.false) in
    let some : 0 < length v.segments =
    subst (λ (xs : List ℕ). 0 < length xs) c.as_slice-segments.ensures
    (grind (arith, nat_tests, c.is_empty.ensures, c.if-is_empty.false)) in
    IfOk-weaker c.are_distinct.result (λ b. Reflects b (AreDistinct named))
    (λ b. Reflects b (IsVersion v)) (λ b. tells_both b (AreDistinct named) (IsVersion v)
    (λ differ. is_version v named c.requires (omega (arith, c.if-version-lt1.false))
    (omega (arith, c.if-version-gt-LAST_NUMBER.false)) some rise families put below differ)
    (λ is. subst AreDistinct (sym put) is.differ)) c.are_distinct.ensures
