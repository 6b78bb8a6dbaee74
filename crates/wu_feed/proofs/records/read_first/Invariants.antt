use Rattle.std.proofs.Common.{◌≡◌, ℕ, List, Some, map, length}
use Rattle.csv.specs.Reading.{Reached, default_config, source_of}
use Rattle.csv.specs.Records.{fields_of}
use Rattle.csv.specs.declared.parser.State.TheVariants as st
use Rattle.wu_feed.specs.Readers.{TakesAny}
use Rattle.wu_feed.proofs.records.read_first.Given as goal

abbrev pub invariant-loop : goal.invariant-loop
invariant-loop l = record {
  any : TakesAny l.reader;
  config : l.reader.config ≡ default_config;
  counted : length l.records.items ≡ l.counter;
  reached : (text : List ℕ) → source_of (λ s. Some s.now) l.fn.reader ≡ Some text → (y : List ℕ) × (source_of (λ s. Some s.now) l.reader ≡ Some y)
      × Reached default_config st.StartRecord text (map fields_of l.records.items) l.reader.state y;
}
