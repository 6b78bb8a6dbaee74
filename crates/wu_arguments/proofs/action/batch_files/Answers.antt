use Rattle.std.proofs.Common.{◌≡◌, ◌∙◌, ap, rules}
use Rattle.std.specs.Vec.Iter.{into_iter_items}
use Rattle.wu_feed.specs.Told.{both}
use Rattle.wu_arguments.specs.Actions.{bytes_of, content_of}
use Rattle.wu_arguments.proofs.BothLemmas.{second_content}
use Rattle.wu_arguments.proofs.action.batch_files.Goals as goal

pub returns : goal.returns
returns c =
    let all : into_iter_items c.into_iter-contents.result ≡ c.args.contents.items = search rules in
    let second : c.next_content-template.result ≡ content_of (bytes_of c.args.contents.items) 1 =
    c.next_content-template.ensures.first ∙ ap (λ l. content_of (bytes_of l) 0) c.next_content-file.ensures.rest
    ∙ second_content (into_iter_items c.into_iter-contents.result) ∙ ap (λ l. content_of (bytes_of l) 1) all in
    let first : c.next_content-file.result ≡ content_of (bytes_of c.args.contents.items) 0 =
    c.next_content-file.ensures.first ∙ ap (λ l. content_of (bytes_of l) 0) all in
    c.both.ensures ∙ ap (λ r. both r c.next_content-template.result) first ∙ ap (both (content_of (bytes_of c.args.contents.items) 0)) second
