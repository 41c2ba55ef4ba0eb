-- Commands go by the values of their options alone.
use Rattle.std.proofs.Common.{◌≡◌, refl, ℕ, List, Option, codes}
use Rattle.ifdb_words.specs.OneFile.{one_file_of}
use Rattle.ifdb_words.specs.Host.{host_of}
use Rattle.ifdb_words.specs.Keep.{keep_of}
use Rattle.ifdb_words.specs.Limit.{limit_of}
use Rattle.ifdb_words.specs.Project.{project_of}
use Rattle.ifdb_words.specs.Serve.{serve_of}

abbrev Values : Type 0
Values = List ℕ → Option (List ℕ)

pub limit_same : (v w : Values) → ((name : List ℕ) → v name ≡ w name) → limit_of v ≡ limit_of w
limit_same v w same = rw (same (codes "limit")) refl

pub one_file_same : (v w : Values) → ((name : List ℕ) → v name ≡ w name) → one_file_of v ≡ one_file_of w
one_file_same v w same = rw (same (codes "file")) refl

pub keep_same : (v w : Values) → ((name : List ℕ) → v name ≡ w name) → keep_of v ≡ keep_of w
keep_same v w same = rw (same (codes "file"), same (codes "limit")) refl

pub host_same : (v w : Values) → ((name : List ℕ) → v name ≡ w name) → host_of v ≡ host_of w
host_same v w same = rw (same (codes "file"), same (codes "admin-key"), same (codes "port"), same (codes "loops"), same (codes "connections"), same (codes "limit"), same (codes "hello"), same (codes "idle"), same (codes "stall")) refl

pub project_same : (v w : Values) → ((name : List ℕ) → v name ≡ w name) → project_of v ≡ project_of w
project_same v w same = rw (same (codes "tags"), same (codes "limit")) refl

pub serve_same : (v w : Values) → ((name : List ℕ) → v name ≡ w name) → serve_of v ≡ serve_of w
serve_same v w same = rw (same (codes "port"), same (codes "workers"), same (codes "links"), same (codes "limit")) refl
