-- The general sentences of document 01 that the demands do not repeat, each under its words, about the calls' definitions and the
-- bytes of runs, reached from accepted files or made by hand. proofs/Sentences proves them.
use Rattle.std.specs.Prelude.{◌≡◌, ◌≢◌, ◌↔◌, true, List, ◌++◌, ℕ, suc, ◌+◌, ◌*◌, ◌≤◌, ◌<◌, eqb, length}
use Rattle.std.proofs.Math.Option.{none, some}
use Rattle.base.specs.Choice.{pick}
use Rattle.base.specs.Lists.{without, All, total, sum}
use Rattle.paper.specs.Runs.{Mark, nothing, initiated, entry, initial}
use Rattle.paper.specs.Files.{File}
use Rattle.paper.specs.Reached.{FileOk}
use Rattle.paper.specs.Replies.{AsLoaded}
use Rattle.paper.specs.Counts.{most_held, is_statement, news_of}
use Rattle.paper.specs.SameStatements.{SameItems, SameSet}
use Rattle.paper.specs.Programs.{printed_run, printed}
use Rattle.paper.specs.declared.Item.{Item}
use Rattle.paper.specs.declared.Item.TheVariants.{Statement as statement, Ask as ask, News as news}
use Rattle.paper.specs.Sizes.{most_unknowns, longest_file}
use Rattle.paper.specs.Refusals.{not_as_loaded}
use Rattle.layout.specs.Offsets.{record_bytes, clash_at, table_at, owners_at, stores_at, memos_at, memo_bytes, pending_at, run_bytes, row_bytes, map_bytes}
use Rattle.layout.specs.Fields.{byte_at, count_of, clash_of, owner_of, mark_of, pair_of, item_at, items_from, table_of, run_of}
use Rattle.layout.specs.Soundness.{sound_bytes}
use Rattle.layout.specs.MapRows.{map_of}
use Rattle.statements.specs.Loads.{loaded_bytes}
use Rattle.statements.specs.Writes.{answer, as_loaded, written_bytes, load_bytes}
use Rattle.rules.specs.Bytes.{Out, out, step_bytes}
use Rattle.maps.specs.Bytes.{mapped, map_bytes_of}
use Rattle.drawing.specs.Draws.{drawn_bytes}
use Rattle.promises.specs.FromFiles.{Bytes, Accepted, FromFile, NothingPending, AtEnd}

-- bytes that n accepted steps make of what an accepted file, which says f, is loaded to
pub record FromAccepted (f : File) (n : ℕ) (d : List ℕ) : Type 0 where
  pub file : List ℕ
  pub accepted : Accepted file f
  pub carried : FromFile file n d

-- the pending items
abbrev pub pending_of : List ℕ → List Item
pending_of d = items_from d (count_of d) 0

-- how many news of x are pending
abbrev pub pending_news : ℕ → List ℕ → ℕ
pending_news x d = total (news_of x) (pending_of d)

-- 1 for the mark that is the entry u; how many of s cabinets hold the entry u for x
abbrev pub is_entry : ℕ → Mark → ℕ
is_entry u nothing = 0
is_entry u initiated = 0
is_entry u (entry v) = pick (eqb v u) 1 0

abbrev pub holders : ℕ → ℕ → ℕ → List ℕ → ℕ
holders s x u d = sum s (λ c. is_entry u (mark_of d c x))

-- how many statements are pending
abbrev pub pending_statements : List ℕ → ℕ
pending_statements d = total is_statement (pending_of d)

-- the same "store and memo" of cabinet c
pub record SameCabinet (c : ℕ) (d d' : List ℕ) : Type 0 where
  pub store : (x : ℕ) → mark_of d c x ≡ mark_of d' c x
  pub memo : (x y : ℕ) → pair_of d c x y ≡ pair_of d' c x y

-- a run reached from an accepted file, "unclashed", with a = b, a statement of cabinet c, at place i
pub record Stands (c a b i : ℕ) (d : List ℕ) : Type 0 where
  pub file : File
  pub steps : ℕ
  pub reached : FromAccepted file steps d
  pub running : byte_at d clash_at ≡ 0
  pub below : i < count_of d
  pub item : item_at d i ≡ statement c a b

-- "the same rule, products and local effect", or the same refusal: places i of d and i' of d'
pub data SameStep (c i i' : ℕ) (d d' : List ℕ) : Out → Out → Type 0 where
  both_refused : {k : ℕ} → SameStep c i i' d d' (out (suc k) 0 d) (out (suc k) 0 d')
  both_done : {rule : ℕ} {e e' : List ℕ} → (products : List Item) → pending_of e ≡ without (pending_of d) i ++ products
      → pending_of e' ≡ without (pending_of d') i' ++ products → SameCabinet c e e' → clash_of e ≡ clash_of e'
      → SameStep c i i' d d' (out 0 rule e) (out 0 rule e')

-- the cabinet of an item
abbrev pub cabinet_of : Item → ℕ
cabinet_of (statement c a b) = c
cabinet_of (ask c x u) = c
cabinet_of (news c x u) = c

-- what taking place i of d appends has the cabinet of the item taken
pub record KeepsCabinet (i : ℕ) (d e : List ℕ) : Type 0 where
  pub products : List Item
  pub appended : pending_of e ≡ without (pending_of d) i ++ products
  pub kept : All (λ j. cabinet_of j ≡ cabinet_of (item_at d i)) products

-- what the map program makes of a file: its run comes by accepted steps from the file, and is at its end
pub record ProgramEnds (s : List ℕ) (f : File) : Type 0 where
  pub steps : ℕ
  pub carried : FromFile s steps (drawn_bytes (loaded_bytes f))
  pub over : AtEnd (drawn_bytes (loaded_bytes f))

pub record Sentences : Type 0 where
  -- "The run's 59,752 bytes"
  pub run_length : run_bytes ≡ 59752
  -- the table's first column: records of 9 bytes from 8 on, owner marks, stores, memos of 1,024, pending items
  pub run_offsets : (table_at ≡ 8) × (record_bytes ≡ 9) × (owners_at ≡ 584) × (stores_at ≡ 616) × (memos_at ≡ 872) × (memo_bytes ≡ 1024) × (pending_at ≡ 9064)
  -- "The map is 352 bytes: 32 rows of 11."
  pub map_length : (map_bytes ≡ 352) × (row_bytes ≡ 11) × (map_bytes ≡ most_unknowns * row_bytes)
  -- "The longest is 836 bytes."
  pub longest : (s : List ℕ) (f : File) → Accepted s f → length s ≤ 836
  -- "The writer accepts a run only as loading some file leaves it"
  pub writer_accepts : (d lent : List ℕ) → Bytes d → (n : ℕ) (m : List ℕ) → written_bytes d lent ≡ answer 0 n m
      → (f : File) × FileOk f.table f.statements × (loaded_bytes f ≡ d)
  -- 19: "write asked of a sound run that isn't as loaded": one that no accepted file is loaded to
  pub writer_refuses : (d lent : List ℕ) → Bytes d → length d ≡ run_bytes → sound_bytes d ≡ true → length lent ≡ longest_file
      → (written_bytes d lent ≡ answer not_as_loaded 0 lent) ↔ ((f : File) → FileOk f.table f.statements → loaded_bytes f ≢ d)
  -- and so one that no accepted load leaves
  pub no_load_leaves : (d lent : List ℕ) → Bytes d → length d ≡ run_bytes → sound_bytes d ≡ true → length lent ≡ longest_file
      → (written_bytes d lent ≡ answer not_as_loaded 0 lent) ↔ ((s before : List ℕ) → Bytes s → load_bytes s before ≢ answer 0 0 d)
  -- the test of a sound run's bytes is the paper's of the run that they hold
  pub as_loaded_view : (d : List ℕ) → Bytes d → length d ≡ run_bytes → sound_bytes d ≡ true
      → (as_loaded d ≡ true) ↔ AsLoaded (table_of d) (run_of d)
  -- "Loading decides nothing: it leaves a run that is running, with S, V, R, E and the records as read, every mark 255, every memo
  -- byte 0, and as pending items exactly the file's statements, cabinet, left and right as read, in file order."
  pub loading_decides_nothing : (s : List ℕ) (f : File) → Accepted s f → (before d : List ℕ) → load_bytes s before ≡ answer 0 0 d
      → (table_of d ≡ f.table) × (run_of d ≡ initial f.statements)
  -- "All products keep the cabinet, but for Win."
  pub products_keep_cabinet : (d : List ℕ) → Bytes d → (i k : ℕ) (e : List ℕ) → step_bytes d i ≡ out 0 k e → k ≢ 8
      → KeepsCabinet i d e
  -- "In two unclashed runs reached from accepted files that agree on the table, on one cabinet's store and memo and on the item
  -- taken, a statement's step there has the same rule, products and local effect."
  pub locality : (c a b i i' : ℕ) (d d' : List ℕ) → Stands c a b i d → Stands c a b i' d' → table_of d ≡ table_of d'
      → SameCabinet c d d' → SameStep c i i' d d' (step_bytes d i) (step_bytes d' i')
  -- "From an accepted file, for each unknown with an owner mark, pending news plus cabinets holding that entry come to S;"
  pub owned_news : (f : File) (n : ℕ) (d : List ℕ) → FromAccepted f n d → (x u : ℕ) → owner_of d x ≡ some u
      → pending_news x d + holders f.table.cabinets x u d ≡ f.table.cabinets
  -- "an unknown without one has no news and no cabinet holding an entry for it."
  pub unowned_news : (f : File) (n : ℕ) (d : List ℕ) → FromAccepted f n d → (x : ℕ) → owner_of d x ≡ none
      → (pending_news x d ≡ 0) × ((c v : ℕ) → mark_of d c x ≡ entry v → ⊥)
  -- one binding for each unknown everywhere: an entry that a cabinet holds, and one that a news tells, is the owner's; and an
  -- owner mark that is set stays
  pub held_is_owners : (f : File) (n : ℕ) (d : List ℕ) → FromAccepted f n d → (c x v : ℕ) → mark_of d c x ≡ entry v
      → owner_of d x ≡ some v
  pub told_is_owners : (f : File) (n : ℕ) (d : List ℕ) → FromAccepted f n d → (i c x v : ℕ) → i < count_of d
      → item_at d i ≡ news c x v → owner_of d x ≡ some v
  pub owner_stays : (d : List ℕ) → Bytes d → (i k : ℕ) (e : List ℕ) → step_bytes d i ≡ out 0 k e → (x u : ℕ)
      → owner_of d x ≡ some u → owner_of e x ≡ some u
  -- soundness is kept: from a file, and by every accepted step of any sound run
  pub reached_sound : (f : File) (n : ℕ) (d : List ℕ) → FromAccepted f n d
      → (length d ≡ run_bytes) × (sound_bytes d ≡ true) × Bytes d
  pub step_sound : (d : List ℕ) → Bytes d → (i k : ℕ) (e : List ℕ) → step_bytes d i ≡ out 0 k e
      → (length e ≡ run_bytes) × (sound_bytes e ≡ true) × Bytes e
  -- "On a run, agreement is taken over owner marks followed to their end, chains always falling (the same open end, or end records
  -- compared as above, also in a run made by hand)": a sound run with nothing pending, from a file or not, gives the map of its
  -- owner marks
  pub map_by_hand : (d : List ℕ) → length d ≡ run_bytes → sound_bytes d ≡ true → NothingPending d → (lent : List ℕ)
      → length lent ≡ map_bytes → map_bytes_of d lent ≡ mapped 0 (map_of (table_of d) (run_of d))
  -- "nor holds more than 4E + 3SP statements"
  pub statements_held : (f : File) (n : ℕ) (d : List ℕ) → FromAccepted f n d
      → pending_statements d ≤ most_held f.table.cabinets f.table.unknowns (length f.statements)
  -- "At the largest limits this is 2,105,728 steps." And 12,160 statements.
  pub steps_largest : (f : File) (n : ℕ) (d : List ℕ) → FromAccepted f n d → n ≤ 2105728
  pub held_largest : (f : File) (n : ℕ) (d : List ℕ) → FromAccepted f n d → pending_statements d ≤ 12160
  -- "It reads a file on standard input and draws its places": the step count is enough to come to the end
  pub program_ends : (s : List ℕ) (f : File) → Accepted s f → ProgramEnds s f
  -- "It prints .. `clash`, .. or `items V` and per unknown ..": of that run
  pub program_prints : (s : List ℕ) (f : File) → Accepted s f
      → printed s ≡ printed_run f.table (run_of (drawn_bytes (loaded_bytes f))) (clash_of (drawn_bytes (loaded_bytes f)))
  -- two files of demand 3 print the same
  pub same_print : (s s' : List ℕ) (f f' : File) → Accepted s f → Accepted s' f' → SameItems f.table f'.table
      → SameSet f.statements f'.statements → printed s ≡ printed s'
