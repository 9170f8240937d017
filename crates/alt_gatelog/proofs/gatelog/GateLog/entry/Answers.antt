use Rattle.std.proofs.Common.{◌≡◌, ◌<◌, ◌+◌, ◌-◌, ℕ, true, List, [], ◌++◌, length, length-drop, get_or, take, drop, refl, sym, ◌∙◌, ap, subst, arith}
use Rattle.std.proofs.lemmas.Grind.{get_or_default_zero}
use Rattle.std.proofs.lemmas.List.{length-take, take_all, take_at}
use Rattle.std.proofs.Math.ListN.{replicate}
use Rattle.alt_disk.specs.Disk.{DiskState, ReadCall, contents}
use Rattle.alt_gatelog.specs.InHand.{bytes_place, file_of_gate_log, length_of_entry, place_of_gate}
use Rattle.alt_gatelog.proofs.Places.{EntryAt, place_is, next_is, entry_is, count_all, read_entry, read_behind}
use Rattle.alt_gatelog.proofs.gatelog.GateLog.entry.Goals as goal

-- the front of a buffer that was made longer
front_of : (start more : ℕ) (old items : List ℕ) → start ≡ length old
    → items ≡ take (start + more) old ++ replicate (start + more - start) 0 → take start items ≡ old
front_of start more old items is made =
    let whole : take (start + more) old ≡ old = take_all (start + more) old (omega (arith, is)) in
    ap (take start) made ∙ (λ i. take start (whole i ++ replicate (start + more - start) 0))
    ∙ take_at old (replicate (start + more - start) 0) start (sym is)

pub returns-then-count-length-clause-ok : goal.returns-then-count-length-clause-ok
returns-then-count-length-clause-ok g c told entries reads =
    let s : DiskState = g.D.Disk.state c.args.disk.now in
    let log = c.args.self.now in
    let i = c.args.i in
    let at = c.index-at.result.now in
    let entry = get_or entries i [] in
    let whole = c.deref_mut.result.now in
    let items = c.resize.new.self.items in
    let buf = c.read.new.buf in
    let start = c.len-start.result in
    let n = c.saturating_sub-length.result in
    let less : i < length log.places.items = omega (arith, c.requires) in
    let place : get_or log.places.items i 0 ≡ at =
    sym (c.index-at.ensures ∙ get_or_default_zero log.places.items i at less) in
    let here : EntryAt (contents s log.file) at entry =
    subst (λ (p : ℕ). EntryAt (contents s log.file) p entry) place
    (entry_is log.form s log.file log.gate log.places.items entries reads i less) in
    let next : c.next_gate-next.result ≡ at + (9 + length entry) =
    c.next_gate-next.ensures.next ∙ next_is log.form s log.file log.gate log.places.items
    entries reads i less ∙ ap (λ (p : ℕ). p + (9 + length entry)) place in
    let long : length whole ≡ start + n = omega
    (arith, c.deref_mut.ensures.len, c.in_ok-resize.ensures.len) in
    let size : length (take (length whole - start) (drop start whole)) ≡ length entry =
    omega (
      arith,
      length-take (length whole - start) (drop start whole),
      length-drop start whole,
      long,
      next,
      c.saturating_sub-length.ensures,
    ) in
    let read : buf ≡ entry = read_entry (contents s log.file) at entry here
    (take (length whole - start) (drop start whole)) buf c.in-Ok.count
    (c.in-Ok.ensures.bytes told) size c.read.auto.buf in
    let made = c.in_ok-resize.ensures.items ∙ ap
    (λ (k : ℕ). take (start + n) c.args.out.now.items ++ replicate (start + n - k) 0)
    (sym c.len-start.ensures) in
    let same : length whole ≡ length items = ap length c.deref_mut.ensures.value in
    read_behind c.resize.new.self.len start whole items c.args.out.now.items buf
    c.deref_mut.ensures.value (omega (arith, c.in_ok-resize.ensures.len, long, same))
    (omega (arith, c.len-start.ensures))
    (front_of start n c.args.out.now.items items (omega (arith, c.len-start.ensures)) made)
    (omega (
      arith,
      c.read.auto.buf,
      length-take (length whole - start) (drop start whole),
      length-drop start whole,
      same,
    )) (omega (arith, same, long))
    ∙ ap (λ (l : List ℕ). c.args.out.now.items ++ l) read

pub returns-else-count-length-clause-undamaged : goal.returns-else-count-length-clause-undamaged
returns-else-count-length-clause-undamaged g c told entries reads =
    let s : DiskState = g.D.Disk.state c.args.disk.now in
    let log = c.args.self.now in
    let i = c.args.i in
    let at = c.index-at.result.now in
    let entry = get_or entries i [] in
    let whole = c.deref_mut.result.now in
    let start = c.len-start.result in
    let n = c.saturating_sub-length.result in
    let less : i < length log.places.items = omega (arith, c.requires) in
    let place : get_or log.places.items i 0 ≡ at =
    sym (c.index-at.ensures ∙ get_or_default_zero log.places.items i at less) in
    let here : EntryAt (contents s log.file) at entry =
    subst (λ (p : ℕ). EntryAt (contents s log.file) p entry) place
    (entry_is log.form s log.file log.gate log.places.items entries reads i less) in
    let next : c.next_gate-next.result ≡ at + (9 + length entry) =
    c.next_gate-next.ensures.next ∙ next_is log.form s log.file log.gate log.places.items
    entries reads i less ∙ ap (λ (p : ℕ). p + (9 + length entry)) place in
    let long : length whole ≡ start + n = omega
    (arith, c.deref_mut.ensures.len, c.in_ok-resize.ensures.len) in
    let size : length (take (length whole - start) (drop start whole)) ≡ length entry =
    omega (
      arith,
      length-take (length whole - start) (drop start whole),
      length-drop start whole,
      long,
      next,
      c.saturating_sub-length.ensures,
    ) in
    let all = count_all (contents s log.file) at entry here
    (take (length whole - start) (drop start whole)) c.read.new.buf c.in-Ok.count
    (c.in-Ok.ensures.bytes told) size in
    c.if-count-length.false (omega (arith, all, next, c.saturating_sub-length.ensures))

pub returns-else-count-length-clause-damaged : goal.returns-else-count-length-clause-damaged
returns-else-count-length-clause-damaged g c s entries reads =
    let log = c.args.self.now in
    let i = c.args.i in
    let at = c.index-at.result.now in
    let less : i < length log.places.items = omega (arith, c.requires) in
    let place : get_or log.places.items i 0 ≡ at =
    sym (c.index-at.ensures ∙ get_or_default_zero log.places.items i at less) in (
      refl,
      sym place ∙ place_is log.form s log.file log.gate log.places.items entries reads i
          less,
    )

pub returns-then-count-length-clause-given : goal.returns-then-count-length-clause-given
returns-then-count-length-clause-given g c =
    let s : DiskState = g.D.Disk.state c.args.disk.now in
    let new : DiskState = g.D.Disk.state c.read.new.self in
    let log = c.args.self.now in
    let i = c.args.i in
    let at = c.index-at.result.now in
    let whole = c.deref_mut.result.now in
    let items = c.resize.new.self.items in
    let buf = c.read.new.buf in
    let start = c.len-start.result in
    let n = c.saturating_sub-length.result in
    let less : i < length log.places.items = omega (arith, c.requires) in
    let place : at ≡ place_of_gate log i =
    c.index-at.ensures ∙ get_or_default_zero log.places.items i at less in
    let behind : at + 9 ≡ bytes_place log i = ap (λ (p : ℕ). p + 9) place in
    let many : n ≡ length_of_entry log i = c.saturating_sub-length.ensures
    ∙ (λ j. c.next_gate-next.ensures.next j - behind j) in
    let long : length whole ≡ start + n = omega
    (arith, c.deref_mut.ensures.len, c.in_ok-resize.ensures.len) in
    let part = take (length whole - start) (drop start whole) in
    let asked : length part ≡ n = omega (
      arith,
      length-take (length whole - start) (drop start whole),
      length-drop start whole,
      long,
    ) in
    let size : length buf ≡ n = omega (arith, c.read.auto.buf, asked) in
    let all : c.in-Ok.count ≡ n = c.if-count-length.true in
    let made = c.in_ok-resize.ensures.items ∙ ap
    (λ (k : ℕ). take (start + n) c.args.out.now.items ++ replicate (start + n - k) 0)
    (sym c.len-start.ensures) in
    let same : length whole ≡ length items = ap length c.deref_mut.ensures.value in
    record {
      bytes = buf;
      added = read_behind c.resize.new.self.len start whole items c.args.out.now.items buf
          c.deref_mut.ensures.value (omega (arith, c.in_ok-resize.ensures.len, long, same))
          (omega (arith, c.len-start.ensures))
          (front_of start n c.args.out.now.items items (omega (arith, c.len-start.ensures)) made)
          (omega (arith, size, same, long)) (omega (arith, same, long));
      read = record {
        size = size ∙ many;
        read = subst (λ (m : ℕ). ReadCall s new (file_of_gate_log log) (bytes_place log i) m true)
            (asked ∙ many)
            (subst (λ (p : ℕ). ReadCall s new (file_of_gate_log log) p (length part) true) behind
            c.in-Ok.ensures.call);
        there = λ told.
            sym (take_all c.in-Ok.count buf (omega (arith, size, all)))
            ∙ (c.in-Ok.ensures.bytes told).front
            ∙ (λ j. take ((all ∙ many) j) (drop (behind j) (contents s (file_of_gate_log log))));
      };
    }
