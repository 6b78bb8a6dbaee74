-- No line of a fault begins with '='.
use Rattle.std.proofs.Common.{[], ◌∷◌, ◌++◌, decimal, refl}
use Rattle.std.specs.Prelude.{codes}
use Rattle.wu_core.specs.Words.{file_cause_word, template_key_word}
use Rattle.wu_core.specs.declared.fault.Fault.{Fault}
use Rattle.wu_core.specs.declared.fault.Fault.TheVariants as fault
use Rattle.wu_core.specs.declared.fault.FileCause.{FileCause}
use Rattle.wu_core.specs.declared.fault.FileCause.TheVariants as cause
use Rattle.wu_core.specs.declared.fault.TemplateKey.{TemplateKey}
use Rattle.wu_core.specs.declared.fault.TemplateKey.TheVariants as key
use Rattle.wu_report.specs.Texts.{line_end}
use Rattle.wu_report.proofs.MarkLemmas.{IsInside, IsWhole, past, past_decimal}
use Rattle.wu_report.proofs.MarkedSkips.{line_whole}
use Rattle.wu_drive.specs.Texts.{fault_text}

key_inside : (it : TemplateKey) → IsInside (template_key_word it)
key_inside key.Document = refl
key_inside key.Unknown = refl
key_inside key.MinQuorum = refl
key_inside key.TargetNresults = refl
key_inside key.MaxErrorResults = refl
key_inside key.MaxTotalResults = refl
key_inside key.MaxSuccessResults = refl
key_inside key.DelayBound = refl
key_inside key.Credit = refl

cause_inside : (it : FileCause) → IsInside (file_cause_word it)
cause_inside cause.Unreadable = refl
cause_inside cause.TooLong = refl
cause_inside cause.Header = refl
cause_inside cause.TooManyRows = refl
cause_inside cause.Fields = refl
cause_inside cause.Name = refl
cause_inside cause.Input = refl
cause_inside cause.Result = refl
cause_inside cause.Host = refl
cause_inside cause.Moment = refl
cause_inside cause.Status = refl
cause_inside cause.Output = refl
cause_inside cause.Class = refl

pub fault_whole : (it : Fault) → IsWhole (fault_text it ++ line_end)
fault_whole fault.BadName = λ rest. refl
fault_whole (fault.BadTemplate wrong) = line_whole (codes "F2 BadTemplate ") (template_key_word wrong ∷ []) (λ rest. refl) (past (template_key_word wrong) (key_inside wrong), tt)
fault_whole (fault.BadFile row why) =
    line_whole (codes "F3 BadFile ") (decimal row ∷ codes " " ∷ file_cause_word why ∷ []) (λ rest. refl)
    (past_decimal row, (λ rest. refl, (past (file_cause_word why) (cause_inside why), tt)))
fault_whole fault.NameUsed = λ rest. refl
fault_whole (fault.WorkunitUsed row) = line_whole (codes "F5 WorkunitUsed ") (decimal row ∷ []) (λ rest. refl) (past_decimal row, tt)
fault_whole fault.TooMany = λ rest. refl
fault_whole fault.BadMoment = λ rest. refl
fault_whole fault.BadLimit = λ rest. refl
fault_whole fault.UnknownWorkunit = λ rest. refl
fault_whole fault.NotOpenToCancel = λ rest. refl
fault_whole (fault.OldSchema version) = line_whole (codes "F11 OldSchema ") (decimal version ∷ []) (λ rest. refl) (past_decimal version, tt)
fault_whole (fault.NewSchema version) = line_whole (codes "F12 NewSchema ") (decimal version ∷ []) (λ rest. refl) (past_decimal version, tt)
fault_whole fault.NotAProject = λ rest. refl
fault_whole fault.Memory = λ rest. refl
fault_whole fault.Broken = λ rest. refl
fault_whole fault.Ended = λ rest. refl
fault_whole fault.Output = λ rest. refl
