-- `bench::ways::noted` meets its contract: the event played, and what is counted of it put.
-- Assumes nothing.
use Prim.Native.Nat.{ℕ}
use Rattle.bench.proofs.Counting.{reported_short}
use Rattle.bench.proofs.Events.{noted_put, room_small}
use Rattle.bench.specs.Play.{zeros}
use Rattle.bench.specs.Turn.{Made}
use Rattle.table.proofs.Octets.KnownLaws.{all_octets_lem, sound_later}
use Rattle.table.specs.Run.{Sound}
use borrow.Author.Rules.{rules}
use mathlib.Core.List.{List}
use mathlib.Core.Path.{subst, sym}
use Rattle.bench.proofs.ways.noted.Goals as goal

pub write_facts-requires : goal.write_facts-requires
write_facts-requires c = reported_short c.args.e c.play_on_in-a.result.written c.play_on_in-a.new.out c.reported_by.ensures c.play_on_in-a.auto.out

pub returns : goal.returns
returns c = λ h.
    let a = c.args in
    let s = a.r.settings in
    let ts = a.table.now in
    let fs = a.frame.now in
    let p = c.play_on_in-a.ensures h.fit h.sound (room_small a.e) in
    let m : Made ts = λ k. search rules in
    let later = sound_later ts s a.e fs zeros (all_octets_lem ts m) (all_octets_lem fs (λ k. (c.type_inv.frame k).fits)) h.sound in
    let sound : Sound s c.play_on_in-a.new.table = subst (λ (x : List ℕ). Sound s x) (sym p.1) later in
    (p.1, noted_put s a.e fs ts _ _ _ _ _ _ _ _ _ p (c.dropped_by-dropped.ensures h.fit sound) c.reported_by.ensures c.sets_hold-set.ensures c.hold_of-hold.ensures c.write_facts.ensures)
