-- The numbers of a command are within their ranges.
use Rattle.std.proofs.Common.{◌≡◌, ℕ, ◌≤◌, ◌^◌, ◌&&◌, Bool, true, false, refl, sym, subst, arith, List, [], ◌∷◌, Option, Some, None, codes, if◌then◌else◌}
use Rattle.std.specs.Prelude.{nat_le, option_and_then, option_map, Result, Ok, Err, IfOk, IfSome}
use Rattle.std.specs.Str.{bytes_eq}
use Rattle.std.proofs.lemmas.Bool.Decides.{nat_tests}
use Rattle.ifdb_words.specs.declared.command.Command.{Command}
use Rattle.ifdb_words.specs.declared.command.Command.TheVariants.{Run, Serve}
use Rattle.ifdb_words.specs.declared.host.Hosting.{Hosting}
use Rattle.ifdb_words.specs.declared.keep.Keep.{Keep}
use Rattle.ifdb_words.specs.declared.project.Project.{Project}
use Rattle.ifdb_words.specs.declared.loops.LoopService.{LoopService}
use Rattle.ifdb_words.specs.declared.loops.Patience.{Patience}
use Rattle.ifdb_words.specs.declared.service.Service.{Service}
use Rattle.ifdb_words.specs.FileName.{file_in}
use Rattle.ifdb_words.specs.Generate.{counts_for, generation_in, is_flag, script_for, size_of}
use Rattle.ifdb_words.specs.Host.{host_in, host_names, host_of}
use Rattle.ifdb_words.specs.Keep.{keep_in, keep_names, keep_of, keep_with}
use Rattle.ifdb_words.specs.Level.{level_of}
use Rattle.ifdb_words.specs.Limit.{limit_in, limit_names, limit_of}
use Rattle.ifdb_words.specs.Loops.{connections_of, hello_of, idle_of, loop_service_of, loops_of, patience_of, stall_of}
use Rattle.ifdb_words.specs.Numbers.{maybe_to, up_to, needed_to, number_of, number_or, number_to}
use Rattle.ifdb_words.specs.Options.{Use, uses_of, values_of}
use Rattle.ifdb_words.specs.Project.{project_in, project_names, project_of, project_with}
use Rattle.ifdb_words.specs.Ranges.{IsLimit, IsLoopService, IsPatience, IsService, IsWait, IsWithin}
use Rattle.ifdb_words.specs.Run.{run_in}
use Rattle.ifdb_words.specs.Serve.{links_of, port_of, serve_in, serve_names, serve_of, service_of, service_with, workers_of}
use Rattle.ifdb_words.specs.Words.{command_in}
use Rattle.ifdb_words.proofs.Basics.{none_some, some_is}

-- from 1 to this
abbrev Within : ℕ → ℕ → Type 0
Within most n = (1 ≤ n) × (n ≤ most)

if_in : (most n m : ℕ) → up_to most n ≡ Some m → Within most m
if_in most n m e = go (nat_le 1 n) (nat_le n most) refl refl e
  where
    go : (b c : Bool) → nat_le 1 n ≡ b → nat_le n most ≡ c → (if b && c then Some n else None) ≡ Some m → Within most m
    go true true low high e =
        let least : 1 ≤ n = grind (arith, nat_tests) in
        let greatest : n ≤ most = grind (arith, nat_tests) in
        subst (Within most) (some_is n m e) (least, greatest)
    go true false low high e = absurd (none_some m e)
    go false c low high e = absurd (none_some m e)

number_in : (most : ℕ) (word : List ℕ) (m : ℕ) → number_to most word ≡ Some m → Within most m
number_in most word m e = go (number_of word) e
  where
    go : (o : Option ℕ) → option_and_then (up_to most) o ≡ Some m → Within most m
    go None e = absurd (none_some m e)
    go (Some n) e = if_in most n m e

needed_in : (most : ℕ) (word : Option (List ℕ)) (m : ℕ) → needed_to most word ≡ Some m → Within most m
needed_in most None m e = absurd (none_some m e)
needed_in most (Some word) m e = number_in most word m e

default_in : (default most : ℕ) (word : Option (List ℕ)) (m : ℕ) → Within most default → number_or default most word ≡ Some m → Within most m
default_in default most None m within e = subst (Within most) (some_is default m e) within
default_in default most (Some word) m within e = number_in most word m e

limit_within : (values : List ℕ → Option (List ℕ)) (n : ℕ) → limit_of values ≡ Some n → Within (2 ^ 40) n
limit_within values n e = default_in (2 ^ 30) (2 ^ 40) (values (codes "limit")) n (omega arith, omega arith) e

limit_values : (values : List ℕ → Option (List ℕ)) → IfSome (limit_of values) IsLimit
limit_values values = go (limit_of values) refl
  where
    go : (o : Option ℕ) → limit_of values ≡ o → IfSome o IsLimit
    go None e = tt
    go (Some n) e = limit_within values n e

limit_words : (uses : Option (List Use)) → IfSome (option_and_then (λ (uses : List Use). limit_of (values_of uses)) uses) IsLimit
limit_words None = tt
limit_words (Some uses) = limit_values (values_of uses)

pub limit_in_range : (words : List (List ℕ)) (o : Option ℕ) → o ≡ limit_in words → IfSome o IsLimit
limit_in_range words o is = subst (λ (o : Option ℕ). IfSome o IsLimit) (sym is) (limit_words (uses_of limit_names words))

run_within : (words : List (List ℕ)) → IsWithin (run_in words)
run_within words = go (limit_in words) (limit_in_range words (limit_in words) refl)
  where
    go : (o : Option ℕ) → IfSome o IsLimit → IsWithin (option_map Run o)
    go None within = tt
    go (Some n) within = within

abbrev HasLimit : Project → Type 0
HasLimit p = IsLimit p.limit

project_values : (values : List ℕ → Option (List ℕ)) → IfSome (project_of values) HasLimit
project_values values = go (option_and_then level_of (values (codes "tags"))) (limit_of values) (limit_values values)
  where
    go : (level : Option (List ℕ)) (limit : Option ℕ) → IfSome limit IsLimit → IfSome (project_with level limit) HasLimit
    go None limit within = tt
    go (Some level) None within = tt
    go (Some level) (Some limit) within = within

project_words : (uses : Option (List Use)) → IfSome (option_and_then (λ (uses : List Use). project_of (values_of uses)) uses) HasLimit
project_words None = tt
project_words (Some uses) = project_values (values_of uses)

pub project_in_range : {E : Type 0} (words : List (List ℕ)) (r : Result (Option Project) E) → IfOk r (λ p. p ≡ project_in words)
    → IfOk r (λ p. IfSome p (λ p. IsLimit p.limit))
project_in_range words (Ok p) is = subst (λ (p : Option Project). IfSome p HasLimit) (sym is) (project_words (uses_of project_names words))
project_in_range words (Err e) is = tt

abbrev KeepsWithin : Keep → Type 0
KeepsWithin k = IsLimit k.limit

keep_values : (values : List ℕ → Option (List ℕ)) → IfSome (keep_of values) KeepsWithin
keep_values values = go (file_in (values (codes "file"))) (limit_of values) (limit_values values)
  where
    go : (file : Option (List ℕ)) (limit : Option ℕ) → IfSome limit IsLimit → IfSome (keep_with file limit) KeepsWithin
    go None limit within = tt
    go (Some file) None within = tt
    go (Some file) (Some limit) within = within

keep_words : (uses : Option (List Use)) → IfSome (option_and_then (λ (uses : List Use). keep_of (values_of uses)) uses) KeepsWithin
keep_words None = tt
keep_words (Some uses) = keep_values (values_of uses)

pub keep_in_range : {E : Type 0} (words : List (List ℕ)) (r : Result (Option Keep) E) → IfOk r (λ k. k ≡ keep_in words)
    → IfOk r (λ k. IfSome k (λ k. IsLimit k.limit))
keep_in_range words (Ok k) is = subst (λ (k : Option Keep). IfSome k KeepsWithin) (sym is) (keep_words (uses_of keep_names words))
keep_in_range words (Err e) is = tt

service_values : (values : List ℕ → Option (List ℕ)) → IfSome (service_of values) IsService
service_values values = go (port_of values) (workers_of values) (links_of values) (limit_of values) refl refl refl refl
  where
    go : (p w l i : Option ℕ) → port_of values ≡ p → workers_of values ≡ w → links_of values ≡ l → limit_of values ≡ i → IfSome (service_with p w l i) IsService
    go None w l i ep ew el ei = tt
    go (Some p) None l i ep ew el ei = tt
    go (Some p) (Some w) None i ep ew el ei = tt
    go (Some p) (Some w) (Some l) None ep ew el ei = tt
    go (Some p) (Some w) (Some l) (Some i) ep ew el ei = record {
      port = needed_in 65535 (values (codes "port")) p ep;
      workers = default_in 4 64 (values (codes "workers")) w (omega arith, omega arith) ew;
      links = default_in 1000000 1000000 (values (codes "links")) l (omega arith, omega arith) el;
      limit = limit_within values i ei;
    }

serve_values : (values : List ℕ → Option (List ℕ)) → IsWithin (serve_of values)
serve_values values = go (service_of values) (service_values values)
  where
    go : (service : Option Service) → IfSome service IsService → IsWithin (option_map Serve service)
    go None within = tt
    go (Some s) within = within

-- what an option comes to whose value is there, by what stands before it
chosen : {X Y : Type 0} (f : X → Option Y) (o : Option X) (y : Y) → option_and_then f o ≡ Some y → (x : X) × (o ≡ Some x) × (f x ≡ Some y)
chosen f None y e = absurd (none_some y e)
chosen f (Some x) y e = (x, refl, e)

mapped : {X Y : Type 0} (f : X → Y) (o : Option X) (y : Y) → option_map f o ≡ Some y → (x : X) × (o ≡ Some x) × (f x ≡ y)
mapped f None y e = absurd (none_some y e)
mapped f (Some x) y e = (x, refl, some_is (f x) y e)

wait_in : (default : ℕ) (word : Option (List ℕ)) (m : ℕ) → IsWait default → number_or default 86400 word ≡ Some m → IsWait m
wait_in default word m within e = default_in default 86400 word m within e

patience_in : (values : List ℕ → Option (List ℕ)) (p : Patience) → patience_of values ≡ Some p → IsPatience p
patience_in values p e =
    let h = chosen _ (hello_of values) p e in
    let i = chosen _ (idle_of values) p h.2 in
    let s = mapped _ (stall_of values) p i.2 in
    subst IsPatience s.2 (record {
      hello = wait_in 10 (values (codes "hello")) h.0 (omega arith, omega arith) h.1;
      idle = wait_in 600 (values (codes "idle")) i.0 (omega arith, omega arith) i.1;
      stall = wait_in 60 (values (codes "stall")) s.0 (omega arith, omega arith) s.1;
    })

loops_in : (word : Option (List ℕ)) (n : Option ℕ) → maybe_to 64 word ≡ Some n → IfSome n (Within 64)
loops_in None n e = subst (λ (o : Option ℕ). IfSome o (Within 64)) (some_is None n e) tt
loops_in (Some word) n e =
    let m = mapped Some (number_to 64 word) n e in
    subst (λ (o : Option ℕ). IfSome o (Within 64)) m.2 (number_in 64 word m.0 m.1)

loop_service_in : (values : List ℕ → Option (List ℕ)) (s : LoopService) → loop_service_of values ≡ Some s → IsLoopService s
loop_service_in values s e =
    let p = chosen _ (port_of values) s e in
    let l = chosen _ (loops_of values) s p.2 in
    let c = chosen _ (connections_of values) s l.2 in
    let i = chosen _ (limit_of values) s c.2 in
    let w = mapped _ (patience_of values) s i.2 in
    subst IsLoopService w.2 (record {
      port = needed_in 65535 (values (codes "port")) p.0 p.1;
      loops = loops_in (values (codes "loops")) l.0 l.1;
      connections = default_in 10000 1000000 (values (codes "connections")) c.0 (omega arith, omega arith) c.1;
      limit = limit_within values i.0 i.1;
      patience = patience_in values w.0 w.1;
    })

abbrev HasLoops : Hosting → Type 0
HasLoops h = IsLoopService h.service

host_values : (values : List ℕ → Option (List ℕ)) → IfSome (host_of values) HasLoops
host_values values = go (host_of values) refl
  where
    go : (o : Option Hosting) → host_of values ≡ o → IfSome o HasLoops
    go None e = tt
    go (Some h) e =
        let f = chosen _ (file_in (values (codes "file"))) h e in
        let k = chosen _ (file_in (values (codes "admin-key"))) h f.2 in
        let s = mapped _ (loop_service_of values) h k.2 in
        subst HasLoops s.2 (loop_service_in values s.0 s.1)

host_words : (uses : Option (List Use)) → IfSome (option_and_then (λ (uses : List Use). host_of (values_of uses)) uses) HasLoops
host_words None = tt
host_words (Some uses) = host_values (values_of uses)

pub host_in_range : {E : Type 0} (words : List (List ℕ)) (r : Result (Option Hosting) E) → IfOk r (λ h. h ≡ host_in words)
    → IfOk r (λ h. IfSome h (λ h. IsLoopService h.service))
host_in_range words (Ok h) is = subst (λ (h : Option Hosting). IfSome h HasLoops) (sym is) (host_words (uses_of host_names words))
host_in_range words (Err e) is = tt

-- what is asked for by the uses that were read
by_uses : (of_values : (List ℕ → Option (List ℕ)) → Option Command) (uses : Option (List Use)) → ((values : List ℕ → Option (List ℕ)) → IsWithin (of_values values))
    → IsWithin (option_and_then (λ (uses : List Use). of_values (values_of uses)) uses)
by_uses of_values None within = tt
by_uses of_values (Some uses) within = within (values_of uses)

script_within : (o : Option ℕ) → IsWithin (script_for o)
script_within None = tt
script_within (Some n) = tt

counts_within : (o : Option ℕ) → IsWithin (counts_for o)
counts_within None = tt
counts_within (Some n) = tt

-- one of two
either : (b : Bool) (c d : Option Command) → IsWithin c → IsWithin d → IsWithin (if b then c else d)
either true c d first second = first
either false c d first second = second

generation_within : (words : List (List ℕ)) → IsWithin (generation_in words)
generation_within [] = tt
generation_within (word ∷ []) = script_within (size_of word)
generation_within (word ∷ other ∷ []) =
    either (is_flag word) _ _ (counts_within (size_of other)) (either (is_flag other) _ None (counts_within (size_of word)) tt)
generation_within (word ∷ other ∷ third ∷ words) = tt

command_within : (words : List (List ℕ)) → IsWithin (command_in words)
command_within [] = tt
command_within (word ∷ words) =
    either (bytes_eq word (codes "run")) _ _ (run_within words)
    (either (bytes_eq word (codes "serve")) _ _ (by_uses serve_of (uses_of serve_names words) serve_values)
    (either (bytes_eq word (codes "generate")) _ None (generation_within words) tt))

pub in_range : (words : List (List ℕ)) (c : Option Command) → c ≡ command_in words → IsWithin c
in_range words c is = subst (λ (c : Option Command). IsWithin c) (sym is) (command_within words)

pub serve_in_range : {E : Type 0} (words : List (List ℕ)) (r : Result (Option Command) E) → IfOk r (λ c. c ≡ serve_in words) → IfOk r IsWithin
serve_in_range words (Ok c) is = subst (λ (c : Option Command). IsWithin c) (sym is) (by_uses serve_of (uses_of serve_names words) serve_values)
serve_in_range words (Err e) is = tt
