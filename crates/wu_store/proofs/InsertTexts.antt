-- The INSERTs of the changes: each text with its row, and that it fits its table.
use Rattle.wu_schema.proofs.Words.{Null, [], append-nil, archived_at, codes, col, everything, grant_at, import_at, lit, refl, result_at, workunit_at, ◌∷◌}
use Rattle.wu_schema.specs.Tables.{queue_at}
use Rattle.wu_schema.proofs.InsertTexts.{Put, PutFits}
use Rattle.wu_store.specs.declared.texts.TheConstants.{INSERT_ARCHIVED, INSERT_GRANT, INSERT_IMPORT, INSERT_MARKS, INSERT_RESULT, INSERT_WORKUNIT}

-- ---- a workunit

abbrev pub workunit_put : Put
workunit_put = record {
  text = INSERT_WORKUNIT.now;
  terms = col 0 0 ∷ lit Null ∷ col 0 1 ∷ col 0 2 ∷ col 0 3 ∷ col 0 4 ∷ col 0 5 ∷ col 0 6 ∷ col 0 7 ∷ col 0 8 ∷ col 0 9 ∷ col 0 10 ∷ col 0 11 ∷ col 0 12 ∷ col 0 13 ∷ col 0 14 ∷ [];
}

pub workunit_fits : PutFits (codes "workunit") workunit_at workunit_put
unfolding everything
workunit_fits = record { read = refl; made = λ schema tree. refl; formats = λ tree. refl; bare = λ tree. refl; plain = λ tree params. append-nil params }

-- ---- an instance

abbrev pub instance_put : Put
instance_put = record {
  text = INSERT_RESULT.now;
  terms = lit Null ∷ col 0 0 ∷ col 0 1 ∷ col 0 2 ∷ col 0 3 ∷ col 0 4 ∷ col 0 5 ∷ col 0 6 ∷ col 0 7 ∷ col 0 8 ∷ col 0 9 ∷ col 0 10 ∷ [];
}

pub instance_fits : PutFits (codes "result") result_at instance_put
unfolding everything
instance_fits = record { read = refl; made = λ schema tree. refl; formats = λ tree. refl; bare = λ tree. refl; plain = λ tree params. append-nil params }

-- ---- a grant

abbrev pub grant_put : Put
grant_put = record { text = INSERT_GRANT.now; terms = col 0 0 ∷ lit Null ∷ col 0 1 ∷ col 0 2 ∷ col 0 3 ∷ col 0 4 ∷ [] }

pub grant_fits : PutFits (codes "credit_grant") grant_at grant_put
unfolding everything
grant_fits = record { read = refl; made = λ schema tree. refl; formats = λ tree. refl; bare = λ tree. refl; plain = λ tree params. append-nil params }

-- ---- an archived row

abbrev pub archived_put : Put
archived_put = record {
  text = INSERT_ARCHIVED.now;
  terms = col 0 0 ∷ lit Null ∷ col 0 1 ∷ col 0 2 ∷ col 0 3 ∷ col 0 4 ∷ col 0 5 ∷ col 0 6 ∷ [];
}

pub archived_fits : PutFits (codes "archived") archived_at archived_put
unfolding everything
archived_fits = record { read = refl; made = λ schema tree. refl; formats = λ tree. refl; bare = λ tree. refl; plain = λ tree params. append-nil params }

-- ---- an import

abbrev pub import_put : Put
import_put = record { text = INSERT_IMPORT.now; terms = lit Null ∷ col 0 0 ∷ col 0 1 ∷ col 0 2 ∷ col 0 3 ∷ col 0 4 ∷ col 0 5 ∷ [] }

pub import_fits : PutFits (codes "import") import_at import_put
unfolding everything
import_fits = record { read = refl; made = λ schema tree. refl; formats = λ tree. refl; bare = λ tree. refl; plain = λ tree params. append-nil params }

-- ---- the marks of a workunit

abbrev pub queue_put : Put
queue_put = record {
  text = INSERT_MARKS.now;
  terms = col 0 0 ∷ lit Null ∷ col 0 1 ∷ col 0 2 ∷ col 0 3 ∷ col 0 4 ∷ col 0 5 ∷ [];
}

pub queue_fits : PutFits (codes "queue") queue_at queue_put
unfolding everything
queue_fits = record { read = refl; made = λ schema tree. refl; formats = λ tree. refl; bare = λ tree. refl; plain = λ tree params. append-nil params }
