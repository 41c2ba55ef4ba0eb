-- decides: the generator's script
-- The generator's script: four sessions set their labels to one of four tags, insert rows and count them.
use Rattle.std.specs.Prelude.{ℕ, zero, suc, ◌+◌, ◌*◌, ◌/◌, ◌%◌, ◌==◌, ◌&&◌, nat_le, List, [], ◌++◌, codes, decimal, Option, Some, None, if◌then◌else◌}

-- the number of INSERTs, if it is from 1 to 10,000
abbrev pub sized : ℕ → Option ℕ
sized n = if nat_le 1 n && nat_le n 10000 then Some n else None

-- ---- what is drawn

abbrev pub drawn_after : ℕ → ℕ
drawn_after x = (x * 75 + 74) % 65537

abbrev pub drawn : ℕ → ℕ
drawn zero = 1
drawn (suc i) = drawn_after (drawn i)

-- ---- lines

-- SET LABEL to one tag
abbrev pub relabels : ℕ → ℕ → List ℕ
relabels session tag = decimal session ++ (codes " SET LABEL (t" ++ (decimal tag ++ codes ")\n"))

-- INSERT of one row
abbrev pub inserts : ℕ → ℕ → ℕ → List ℕ
inserts session id quantity =
    decimal session ++ (codes " INSERT INTO item VALUES (" ++ (decimal id ++ (codes ", " ++ (decimal quantity ++ codes ")\n"))))

-- SELECT, in each fourth round
abbrev pub counts : ℕ → ℕ → List ℕ
counts session turn = if turn % 4 == 0 then decimal session ++ codes " SELECT COUNT(*) FROM item WHERE qty < 500\n" else []

-- ---- the script

-- the first session with its tags and table, and the other sessions
abbrev pub setup : List ℕ
setup =
    codes "OPEN\n1 HELLO admin KEY 'admin'\n"
    ++ (codes "1 CREATE TAG t0\n1 CREATE TAG t1\n1 CREATE TAG t2\n1 CREATE TAG t3\n"
    ++ (codes "1 CREATE TABLE item (id INT, qty INT, PRIMARY KEY (id))\n"
    ++ (codes "OPEN\n2 HELLO admin KEY 'admin'\n"
    ++ (codes "OPEN\n3 HELLO admin KEY 'admin'\n" ++ codes "OPEN\n4 HELLO admin KEY 'admin'\n"))))

-- one round of n, by what was drawn for it
abbrev pub round_of : ℕ → ℕ → ℕ → List ℕ
round_of n turn x =
    relabels (1 + turn % 4) (x / 8 % 4) ++ (inserts (1 + turn % 4) (x % (2 * n)) (x % 1000) ++ counts (1 + turn % 4) turn)

abbrev pub round : ℕ → ℕ → List ℕ
round n turn = round_of n turn (drawn turn)

-- the first rounds of n
abbrev pub rounds : ℕ → ℕ → List ℕ
rounds n zero = []
rounds n (suc turn) = rounds n turn ++ round n (suc turn)

-- the script with n INSERTs
abbrev pub script : ℕ → List ℕ
script n = setup ++ rounds n n
