-- What a project is asked, and what it answers.
use Rattle.std.specs.Prelude.{ℕ, List}
use Rattle.wu_core.specs.declared.import.ImportKind.{ImportKind}
use Rattle.wu_rules.specs.declared.due.Pass.{Pass}

pub data Request : Type 0 where
  -- Adds the jobs of a file, with the parameters of a template.
  AskBatch : (name template file : List ℕ) → Request
  -- Imports a file of sends, or of reports.
  AskSent : (name file : List ℕ) → Request
  AskReported : (name file : List ℕ) → Request
  -- Imports a file of classes of hosts.
  AskClasses : (name file : List ℕ) → Request
  -- Runs a pass at a moment, over at most so many workunits; only a purge uses the least age.
  AskPass : (pass : Pass) (now limit min_age : ℕ) → Request
  -- Cancels a workunit.
  AskCancel : (workunit : List ℕ) → Request
  -- Brings the schema to the present version.
  AskUpgrade : Request

pub data Reply : Type 0 where
  -- A file was imported, now or earlier: the number of its first workunit, and a verdict for each row.
  Imported : (kind : ImportKind) (name : List ℕ) (first : ℕ) (verdicts : List ℕ) → Reply
  -- A pass changed so many workunits.
  Passed : (pass : Pass) (handled : ℕ) → Reply
  Cancelled : (workunit : List ℕ) → Reply
  Upgraded : (from to : ℕ) → Reply
