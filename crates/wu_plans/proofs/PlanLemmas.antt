-- The plan of a batch, step by step.
use Rattle.std.proofs.Common.{◌≡◌, ℕ, ◌+◌, ◌<◌, List, [], ◌∷◌, ◌++◌, length, map, replicate, sym, ap, ◌∙◌, arith}
use Rattle.std.proofs.lemmas.List.{length-map, map-append}
use Rattle.std.proofs.lemmas.List.FromFn.{length-enumerate_from}
use Rattle.std.specs.List.{enumerate_from}
use Rattle.wu_core.specs.Parameters.{Parameters}
use Rattle.wu_feed.specs.declared.jobs.Job.{Job}
use Rattle.std.proofs.Common.{Vec, Global, bytes_eq}
use Rattle.wu_core.specs.declared.import.ImportKind.TheVariants as kind
use Rattle.wu_machine.specs.Batches.{new_workunit}
use Rattle.wu_machine.specs.Imports.{Given, first_answer}
use Rattle.wu_machine.specs.Machine.{IsUpToDate, present_version}
use Rattle.wu_machine.specs.Requests.{Imported}
use Rattle.wu_plans.specs.Planning.{additions, first_of, IsNewBatch, KeepsImport}
use Rattle.wu_machine.specs.Commands.{reply_of_answer}
use Rattle.wu_store.specs.declared.changes.Import.{Import as Kept}
use Rattle.wu_machine.specs.declared.command.Answer.{Answer}
use Rattle.wu_machine.specs.declared.command.Answer.TheVariants as reply
use Rattle.wu_store.specs.declared.changes.Change.{Change}
use Rattle.wu_store.specs.declared.changes.Change.TheVariants.{Add, Next, Keep}
use Rattle.wu_core.specs.declared.workunit.Workunit.{Workunit}
use Rattle.wu_core.specs.World.{World}
use Rattle.wu_core.specs.Storable.{AreStorable, IsStorable}
use Rattle.wu_store.specs.Loading.{LoadsNamed}
use Rattle.wu_store.specs.StandsFor.{KnowsClasses}
use Rattle.wu_rules.proofs.Lists.{enumerate_from-append}
use Rattle.wu_machine.proofs.StorableLemmas.{found_is}

pub named_loads : (world : World) → KnowsClasses world → AreStorable world → (name : List ℕ) → LoadsNamed name world
named_loads world known storable name = (known, found_is IsStorable (λ (w : Workunit). bytes_eq w.name name) world.workunits storable)

-- a world of the present version has classes
pub classed : (world : World) → IsUpToDate world → KnowsClasses world
classed world is = omega (arith, is)

-- one of an older version has none
pub no_classes : (world : World) (version : ℕ) → version ≡ world.version → version < present_version → ¬ KnowsClasses world
no_classes world version is older known = absurd (omega (arith, is, older, known))

-- a job at a number as a change
abbrev pub added : Parameters → ℕ × Job → Change
added params p = Add (new_workunit params p.0 p.1)

pub additions_more : (params : Parameters) (next : ℕ) (jobs : List Job) (job : Job) (changes new : List Change) → changes ≡ map (added params) (enumerate_from next jobs)
    → new ≡ changes ++ added params (next + length changes, job) ∷ [] → new ≡ map (added params) (enumerate_from next (jobs ++ job ∷ []))
additions_more params next jobs job changes new are is =
    let long : length changes ≡ length jobs = ap (λ cs. length cs) are ∙ length-map (enumerate_from next jobs) (added params) ∙ length-enumerate_from next jobs in
    is ∙ ap (λ k. changes ++ added params (next + k, job) ∷ []) long ∙ ap (λ cs. cs ++ added params (next + length jobs, job) ∷ []) are
    ∙ sym (ap (λ ps. map (added params) ps) (enumerate_from-append next jobs (job ∷ [])) ∙ map-append (added params) (enumerate_from next jobs) ((next + length jobs, job) ∷ []))

pub additions_whole : (params : Parameters) (next : ℕ) (jobs : List Job) (changes new : List Change) → changes ≡ map (added params) (enumerate_from next jobs)
    → new ≡ changes ++ Next (next + length changes) ∷ [] → new ≡ additions params next jobs
additions_whole params next jobs changes new are is =
    let long : length changes ≡ length jobs = ap (λ cs. length cs) are ∙ length-map (enumerate_from next jobs) (added params) ∙ length-enumerate_from next jobs in
    is ∙ ap (λ k. changes ++ Next (next + k) ∷ []) long ∙ ap (λ cs. cs ++ Next (next + length jobs) ∷ []) are

pub new_batch_is : (given : Given) (next first : ℕ) (params : Parameters) (jobs : List Job) (answer : Answer) (kept : Kept) (applied : List ℕ) (changes : Vec Change Global)
    → given.kind ≡ kind.Batch → first ≡ first_of next (length jobs) → KeepsImport given first applied kept → applied ≡ replicate (length jobs) 0
    → answer ≡ reply.Imported kind.Batch given.name first applied → changes.items ≡ additions params next jobs ++ Keep kept ∷ []
    → IsNewBatch given next params jobs (record { answer = answer; changes = changes })
new_batch_is given next first params jobs answer kept applied changes kind_is first_is keeps applied_is answer_is changes_are = record {
  kept = kept;
  keeps = rw (first_is, applied_is) at keeps;
  answer = ap (λ a. reply_of_answer a) answer_is ∙ ap (λ k. Imported k given.name first applied) (sym kind_is) ∙ sym (ap (λ i. first_answer i) keeps);
  changes = changes_are;
}
