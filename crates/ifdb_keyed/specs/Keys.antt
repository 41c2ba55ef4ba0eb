-- decides: the service
-- The server's key for admin.
use Rattle.std.specs.Prelude.{ℕ, List, take}
use Rattle.ifdb_keyed.specs.declared.admin_key.AdminKey.{AdminKey}

-- the bytes of a key
abbrev pub key_bytes : AdminKey → List ℕ
key_bytes key = take key.count key.bytes
