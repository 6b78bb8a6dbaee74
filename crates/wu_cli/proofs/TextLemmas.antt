-- What is written of a text, and a flush after it.
use Rattle.std.proofs.Common.{◌≡◌, ℕ, List, length, sym, subst, arith}
use Rattle.std.specs.Prelude.{Option, Result, Ok, Err}
use Rattle.std.specs.Io.KnownBytes.{Appends, Keeps}
use Rattle.std.proofs.KnownBytes.{Appends-kept}
use Rattle.std.proofs.lemmas.List.{take_all}
use Rattle.wu_core.specs.declared.fault.Fault.{Fault}
use Rattle.wu_feed.specs.declared.script.LineCause.{LineCause}
use Rattle.wu_report.specs.Writing.{WritesBytes}
use Rattle.wu_check.specs.declared.finding.Finding.{Finding}
use Rattle.wu_check.specs.declared.finding.Key.{Key}
use Rattle.wu_tables.specs.declared.project.Misfit.{Misfit}
use Rattle.wu_cli.specs.Checks.{finding_line, key_text, misfit_line}
use Rattle.wu_cli.specs.Endings.{cause_text, fault_line, usage_text}
use Rattle.wu_arguments.specs.declared.usage.Usage.{Usage}

-- all was written, and the flush wrote nothing
pub flushed : {T E : Type 0} (a b c : Option (List ℕ)) (text : List ℕ) (r : Result T E) → Appends a b text → Keeps b c → WritesBytes a c text r
flushed a b c text (Ok x) whole kept = Appends-kept a b c text whole kept
flushed a b c text (Err e) whole kept = (length text, subst (Appends a c) (sym (take_all (length text) text (omega arith))) (Appends-kept a b c text whole kept))

-- what is written for a fault is written for the same fault by another name; so for a refusal of words, a cause, a key and what was found
pub told_as : {T E : Type 0} (a b : Option (List ℕ)) (r : Result T E) (fault other : Fault) → fault ≡ other → WritesBytes a b (fault_line other) r → WritesBytes a b (fault_line fault) r
told_as a b r fault other is wrote = subst (λ (it : Fault). WritesBytes a b (fault_line it) r) (sym is) wrote

pub usage_told_as : {T E : Type 0} (a b : Option (List ℕ)) (r : Result T E) (usage other : Usage) → usage ≡ other → WritesBytes a b (usage_text other) r → WritesBytes a b (usage_text usage) r
usage_told_as a b r usage other is wrote = subst (λ (it : Usage). WritesBytes a b (usage_text it) r) (sym is) wrote

pub cause_told_as : {T E : Type 0} (a b : Option (List ℕ)) (r : Result T E) (cause other : LineCause) → cause ≡ other → WritesBytes a b (cause_text other) r → WritesBytes a b (cause_text cause) r
cause_told_as a b r cause other is wrote = subst (λ (it : LineCause). WritesBytes a b (cause_text it) r) (sym is) wrote

pub key_told_as : {T E : Type 0} (a b : Option (List ℕ)) (r : Result T E) (key other : Key) → key ≡ other → WritesBytes a b (key_text other) r → WritesBytes a b (key_text key) r
key_told_as a b r key other is wrote = subst (λ (it : Key). WritesBytes a b (key_text it) r) (sym is) wrote

pub misfit_told_as : {T E : Type 0} (a b : Option (List ℕ)) (r : Result T E) (misfit other : Misfit) → misfit ≡ other → WritesBytes a b (misfit_line other) r → WritesBytes a b (misfit_line misfit) r
misfit_told_as a b r misfit other is wrote = subst (λ (it : Misfit). WritesBytes a b (misfit_line it) r) (sym is) wrote

pub finding_told_as : {T E : Type 0} (a b : Option (List ℕ)) (r : Result T E) (finding other : Finding) → finding ≡ other → WritesBytes a b (finding_line other) r → WritesBytes a b (finding_line finding) r
finding_told_as a b r finding other is wrote = subst (λ (it : Finding). WritesBytes a b (finding_line it) r) (sym is) wrote
