-- The texts make the tables, and those of the queue its indexes.
use Rattle.sqlite_ast.specs.declared.CreateIndex.{CreateIndex}
use Rattle.sqlite_ast.specs.declared.Statement.TheVariants as written
use Rattle.sqlite_resolve.specs.Compile.{index_defined_by, index_in}
use Rattle.wu_schema.specs.Indexes.{queue_assimilate, queue_delete, queue_purge, queue_validate, queue_wake}
use Rattle.wu_schema.specs.Queue.{queue_table}
use Rattle.wu_schema.specs.Tables.{host_class_at, queue_at, workunit_class_at}
use Rattle.wu_schema.proofs.Words.{Statement, [], archived_at, codes, everything, false, first, grant_at, host_at, import_at, project_at, refl, result_at, workunit_at}
use Rattle.wu_schema.proofs.CreateLemmas.{def_by, or_empty}
use Rattle.wu_schema.proofs.CreateEffect.{Defines}
use Rattle.wu_schema.proofs.IndexEffect.{DefinesAs}
use Rattle.wu_schema.specs.declared.classes.TheConstants.{CREATE_HOST_CLASS, CREATE_WORKUNIT_CLASS}
use Rattle.wu_schema.specs.declared.texts.TheConstants.{CREATE_ARCHIVED, CREATE_CREDIT_GRANT, CREATE_HOST, CREATE_IMPORT, CREATE_PROJECT, CREATE_QUEUE, CREATE_QUEUE_ASSIMILATE, CREATE_QUEUE_DELETE, CREATE_QUEUE_PURGE, CREATE_QUEUE_VALIDATE, CREATE_QUEUE_WAKE, CREATE_RESULT, CREATE_WORKUNIT}

pub project_made : Defines CREATE_PROJECT.now (codes "project") project_at
unfolding everything
project_made = record { parsed = or_empty (first CREATE_PROJECT.now); def = def_by (or_empty (first CREATE_PROJECT.now)).statement; read = refl; is = refl; nameless = refl; plain = refl; new = refl; called = refl; unreserved = refl; made = refl; placed = λ tree. refl; whole = refl; text_is = refl; named = λ tree. refl; short = refl }

pub workunit_made : Defines CREATE_WORKUNIT.now (codes "workunit") workunit_at
unfolding everything
workunit_made = record { parsed = or_empty (first CREATE_WORKUNIT.now); def = def_by (or_empty (first CREATE_WORKUNIT.now)).statement; read = refl; is = refl; nameless = refl; plain = refl; new = refl; called = refl; unreserved = refl; made = refl; placed = λ tree. refl; whole = refl; text_is = refl; named = λ tree. refl; short = refl }

pub result_made : Defines CREATE_RESULT.now (codes "result") result_at
unfolding everything
result_made = record { parsed = or_empty (first CREATE_RESULT.now); def = def_by (or_empty (first CREATE_RESULT.now)).statement; read = refl; is = refl; nameless = refl; plain = refl; new = refl; called = refl; unreserved = refl; made = refl; placed = λ tree. refl; whole = refl; text_is = refl; named = λ tree. refl; short = refl }

pub grant_made : Defines CREATE_CREDIT_GRANT.now (codes "credit_grant") grant_at
unfolding everything
grant_made = record { parsed = or_empty (first CREATE_CREDIT_GRANT.now); def = def_by (or_empty (first CREATE_CREDIT_GRANT.now)).statement; read = refl; is = refl; nameless = refl; plain = refl; new = refl; called = refl; unreserved = refl; made = refl; placed = λ tree. refl; whole = refl; text_is = refl; named = λ tree. refl; short = refl }

pub host_made : Defines CREATE_HOST.now (codes "host") host_at
unfolding everything
host_made = record { parsed = or_empty (first CREATE_HOST.now); def = def_by (or_empty (first CREATE_HOST.now)).statement; read = refl; is = refl; nameless = refl; plain = refl; new = refl; called = refl; unreserved = refl; made = refl; placed = λ tree. refl; whole = refl; text_is = refl; named = λ tree. refl; short = refl }

pub archived_made : Defines CREATE_ARCHIVED.now (codes "archived") archived_at
unfolding everything
archived_made = record { parsed = or_empty (first CREATE_ARCHIVED.now); def = def_by (or_empty (first CREATE_ARCHIVED.now)).statement; read = refl; is = refl; nameless = refl; plain = refl; new = refl; called = refl; unreserved = refl; made = refl; placed = λ tree. refl; whole = refl; text_is = refl; named = λ tree. refl; short = refl }

pub import_made : Defines CREATE_IMPORT.now (codes "import") import_at
unfolding everything
import_made = record { parsed = or_empty (first CREATE_IMPORT.now); def = def_by (or_empty (first CREATE_IMPORT.now)).statement; read = refl; is = refl; nameless = refl; plain = refl; new = refl; called = refl; unreserved = refl; made = refl; placed = λ tree. refl; whole = refl; text_is = refl; named = λ tree. refl; short = refl }

pub queue_made : Defines CREATE_QUEUE.now (codes "queue") queue_at
unfolding everything
queue_made = record { parsed = or_empty (first CREATE_QUEUE.now); def = def_by (or_empty (first CREATE_QUEUE.now)).statement; read = refl; is = refl; nameless = refl; plain = refl; new = refl; called = refl; unreserved = refl; made = refl; placed = λ tree. refl; whole = refl; text_is = refl; named = λ tree. refl; short = refl }

pub host_class_made : Defines CREATE_HOST_CLASS.now (codes "host_class") host_class_at
unfolding everything
host_class_made = record { parsed = or_empty (first CREATE_HOST_CLASS.now); def = def_by (or_empty (first CREATE_HOST_CLASS.now)).statement; read = refl; is = refl; nameless = refl; plain = refl; new = refl; called = refl; unreserved = refl; made = refl; placed = λ tree. refl; whole = refl; text_is = refl; named = λ tree. refl; short = refl }

pub workunit_class_made : Defines CREATE_WORKUNIT_CLASS.now (codes "workunit_class") workunit_class_at
unfolding everything
workunit_class_made = record { parsed = or_empty (first CREATE_WORKUNIT_CLASS.now); def = def_by (or_empty (first CREATE_WORKUNIT_CLASS.now)).statement; read = refl; is = refl; nameless = refl; plain = refl; new = refl; called = refl; unreserved = refl; made = refl; placed = λ tree. refl; whole = refl; text_is = refl; named = λ tree. refl; short = refl }

-- ---- the indexes of the queue

abbrev index_by : Statement → CreateIndex
index_by (written.CreateIndex def) = def
index_by _ = record { if_missing = false; name = []; table = []; columns = []; is_unique = false }

pub wake_made : DefinesAs CREATE_QUEUE_WAKE.now queue_table queue_wake
unfolding everything index_defined_by index_in
wake_made = record { defines = record { parsed = or_empty (first CREATE_QUEUE_WAKE.now); def = index_by (or_empty (first CREATE_QUEUE_WAKE.now)).statement; read = refl; is = refl; plain = refl; on = refl; new = refl; shared = refl; text_is = refl }; made = λ tree. refl; called = refl; short = λ tree. refl }

pub validate_made : DefinesAs CREATE_QUEUE_VALIDATE.now queue_table queue_validate
unfolding everything index_defined_by index_in
validate_made = record { defines = record { parsed = or_empty (first CREATE_QUEUE_VALIDATE.now); def = index_by (or_empty (first CREATE_QUEUE_VALIDATE.now)).statement; read = refl; is = refl; plain = refl; on = refl; new = refl; shared = refl; text_is = refl }; made = λ tree. refl; called = refl; short = λ tree. refl }

pub assimilate_made : DefinesAs CREATE_QUEUE_ASSIMILATE.now queue_table queue_assimilate
unfolding everything index_defined_by index_in
assimilate_made = record { defines = record { parsed = or_empty (first CREATE_QUEUE_ASSIMILATE.now); def = index_by (or_empty (first CREATE_QUEUE_ASSIMILATE.now)).statement; read = refl; is = refl; plain = refl; on = refl; new = refl; shared = refl; text_is = refl }; made = λ tree. refl; called = refl; short = λ tree. refl }

pub delete_made : DefinesAs CREATE_QUEUE_DELETE.now queue_table queue_delete
unfolding everything index_defined_by index_in
delete_made = record { defines = record { parsed = or_empty (first CREATE_QUEUE_DELETE.now); def = index_by (or_empty (first CREATE_QUEUE_DELETE.now)).statement; read = refl; is = refl; plain = refl; on = refl; new = refl; shared = refl; text_is = refl }; made = λ tree. refl; called = refl; short = λ tree. refl }

pub purge_made : DefinesAs CREATE_QUEUE_PURGE.now queue_table queue_purge
unfolding everything index_defined_by index_in
purge_made = record { defines = record { parsed = or_empty (first CREATE_QUEUE_PURGE.now); def = index_by (or_empty (first CREATE_QUEUE_PURGE.now)).statement; read = refl; is = refl; plain = refl; on = refl; new = refl; shared = refl; text_is = refl }; made = λ tree. refl; called = refl; short = λ tree. refl }
