use Rattle.std.proofs.Common.{◌∙◌, Some, ap, map, sym}
use Rattle.std.proofs.lemmas.Option.{slice_get-get_or, slice_get_past}
use Rattle.std.specs.Option.{option_and_then}
use Rattle.csv.specs.Records.{fields_of}
use Rattle.wu_feed.specs.Shown.{shown}
use Rattle.wu_feed.proofs.ShownLemmas.{no_row, of_row}
use Rattle.wu_feed.proofs.shown.shown_field.Goals as goal

pub returns-in_default-clause-found : goal.returns-in_default-clause-found
returns-in_default-clause-found c =
    let rows = c.as_slice.result.now in
    let read = ap (map fields_of) c.as_slice.ensures.value ∙ c.in_ok-records.ensures.found in
    sym (no_row fields_of rows c.args.file.now c.args.row c.args.column read (slice_get_past rows c.args.row c.in_default.ensures.lookup.3))

pub returns-in-Some-get-clause-found : goal.returns-in-Some-get-clause-found
returns-in-Some-get-clause-found c =
    let rows = c.as_slice.result.now in
    let read = ap (map fields_of) c.as_slice.ensures.value ∙ c.in_ok-records.ensures.found in
    let look = c.in-Some.ensures.lookup in
    let there = slice_get-get_or rows c.args.row c.in-Some.record.now look.3.0 ∙ ap Some (sym look.1) in
    c.in_ok-shown-in-Some-get.ensures
    ∙ sym (of_row fields_of rows c.args.file.now c.args.row c.args.column read c.in-Some.record.now there ∙ ap (option_and_then shown) (sym c.in-Some-get.ensures.value))

pub returns-clause-found : goal.returns-clause-found
returns-clause-found c =
    let rows = c.as_slice.result.now in
    let read = ap (map fields_of) c.as_slice.ensures.value ∙ c.in_ok-records.ensures.found in
    let look = c.in-Some.ensures.lookup in
    let there = slice_get-get_or rows c.args.row c.in-Some.record.now look.3.0 ∙ ap Some (sym look.1) in
    sym (of_row fields_of rows c.args.file.now c.args.row c.args.column read c.in-Some.record.now there ∙ ap (option_and_then shown) (sym c.in-None.ensures.value))
