use Rattle.std.proofs.Common.{Bor, List, ℕ, ◌≡◌, ◌∙◌, sym, refl, map, Some, ◌∷◌, [], length, length-append, arith}
use Rattle.std.proofs.lemmas.List.{length-map, map-append, take_all}
use Rattle.csv.specs.Reading.{Reached, default_config}
use Rattle.csv.specs.Records.{fields_of}
use Rattle.csv.specs.declared.parser.State.TheVariants as st
use Rattle.csv.proofs.ReadFacts.{rows-end, rows-more}
use Rattle.wu_feed.proofs.RecordLemmas.{all_read, some_read}
use Rattle.wu_feed.proofs.records.read_first.Goals as goal

pub loop-init : goal.loop-init
unfolding Reached
loop-init c =
    rw c.new-records.ensures.items (record {
      any = c.requires.0;
      config = c.requires.1;
      counted = refl;
      reached = λ text e. (text, e, (sym c.requires.2, refl));
    })

pub loop-preserved : goal.loop-preserved
loop-preserved c =
    let inv = c.loop.invariant in
    let given = rw c.in-Some.is at c.in_ok-record.ensures.found in
    let items = c.in_ok-push.ensures.items in
    let longer = length-append c.loop.records.items (c.in-Some.record ∷ []) in
    record {
      any = given.1;
      config = given.0.2 ∙ inv.config;
      counted = rw items (omega (arith, longer, inv.counted));
      reached = λ text e.
          let at = inv.reached text e in
          let more = rows-more (λ (s : Bor (List ℕ)). Some s.now) c.loop.reader c.read_record.new.reader (fields_of c.in-Some.record) default_config st.StartRecord text at.0 (map fields_of c.loop.records.items) inv.config at.1 at.2 given.0 in
          (more.0, more.1, rw (items, map-append fields_of c.loop.records.items (c.in-Some.record ∷ [])) more.2);
    }

pub returns-in_default-clause-found : goal.returns-in_default-clause-found
returns-in_default-clause-found c = λ text e.
    let inv = c.loop.invariant in
    let at = inv.reached text e in
    let given = rw c.in_default.is at c.in_ok-record.ensures.found in
    let none = rows-end (λ (s : Bor (List ℕ)). Some s.now) c.loop.reader c.read_record.new.reader [] default_config at.0 inv.config at.1 given in
    let all = all_read text at.0 (map fields_of c.loop.records.items) c.loop.reader.state at.2 none in
    let short = length-map c.loop.records.items fields_of in
    rw all (sym (take_all 1002 (map fields_of c.loop.records.items) (omega (arith, short, inv.counted, c.loop-test.true))))

pub returns-clause-found : goal.returns-clause-found
returns-clause-found c = λ text e.
    let inv = c.loop.invariant in
    let at = inv.reached text e in
    let full : length c.loop.records.items ≡ 1002 = omega (arith, inv.counted, c.loop-test.false, c.loop.auto.counter-end) in
    some_read text at.0 (map fields_of c.loop.records.items) c.loop.reader.state 1002 at.2 (length-map c.loop.records.items fields_of ∙ full)
