-- Processes that use the folder of one log, one after another or at the same time.
--
-- A process becomes the owner of the folder. It copies the last segment into a file of its own, gives that file the name of the last segment,
-- and adds records to it. A commit counts if the process is still the owner after it has synced its file. Calls that fail change nothing,
-- and are not listed.
use Rattle.std.specs.Prelude.{◌≡◌, ◌≢◌, ⊤, ℕ, List, [], ◌∷◌, ◌++◌}
use mathlib.Core.List.{IsPrefix}

-- how far a process is: it has not begun, it has become the owner, it has copied the last segment, or its copy has become the last segment
pub data Stage : Type 0 where
  Absent : Stage
  Began : Stage
  HasCopy : Stage
  Serves : Stage

-- a process: how far it is, and the records in its file
pub record Process : Type 0 where
  pub stage : Stage
  pub records : List ℕ

-- a folder: its processes by their numbers, the owner, the process whose file is the last segment, and the records that are confirmed: of which
-- replies promise that they are durable
pub record Folder : Type 0 where
  pub processes : ℕ → Process
  pub owner : ℕ
  pub last : ℕ
  pub confirmed : List ℕ

-- the records in the last segment, which a start reads
abbrev pub in_last : Folder → List ℕ
in_last f = (f.processes f.last).records

-- what a process does: it becomes the owner, copies the last segment, gives its copy the name of the last segment, adds a record to its file, or
-- syncs its file and sees after that that it is the owner
pub data Act : Type 0 where
  Takes : Act
  Copies : Act
  Publishes : Act
  Adds : ℕ → Act
  Confirms : Act

-- ---- the premise: what the file system does

-- the process of this number is changed to this one, and no other one is
pub record Changes (f : Folder) (n : ℕ) (p : Process) (g : Folder) : Type 0 where
  pub changed : g.processes n ≡ p
  pub others : (m : ℕ) → m ≢ n → g.processes m ≡ f.processes m

-- it becomes the owner: all processes see its folder from then on, and no other one's
pub record IsTake (f : Folder) (n : ℕ) (g : Folder) : Type 0 where
  pub stage : (f.processes n).stage ≡ Absent
  pub process : Changes f n (record { stage = Began; records = [] }) g
  pub owner : g.owner ≡ n
  pub last : g.last ≡ f.last
  pub confirmed : g.confirmed ≡ f.confirmed

-- it reads what was written to the last segment
pub record IsCopy (f : Folder) (n : ℕ) (g : Folder) : Type 0 where
  pub stage : (f.processes n).stage ≡ Began
  pub process : Changes f n (record { stage = HasCopy; records = in_last f }) g
  pub owner : g.owner ≡ f.owner
  pub last : g.last ≡ f.last
  pub confirmed : g.confirmed ≡ f.confirmed

-- its file is renamed out of the owner's folder, which only the owner has
pub record IsPublish (f : Folder) (n : ℕ) (g : Folder) : Type 0 where
  pub stage : (f.processes n).stage ≡ HasCopy
  pub owns : f.owner ≡ n
  pub process : Changes f n (record { stage = Serves; records = (f.processes n).records }) g
  pub owner : g.owner ≡ f.owner
  pub last : g.last ≡ n
  pub confirmed : g.confirmed ≡ f.confirmed

-- it writes to its file, under which name that ever is
pub record IsAdd (f : Folder) (n : ℕ) (r : ℕ) (g : Folder) : Type 0 where
  pub stage : (f.processes n).stage ≡ Serves
  pub process : Changes f n (record { stage = Serves; records = (f.processes n).records ++ r ∷ [] }) g
  pub owner : g.owner ≡ f.owner
  pub last : g.last ≡ f.last
  pub confirmed : g.confirmed ≡ f.confirmed

-- it finds the owner's folder, which only the owner has, after it has synced its file
pub record IsConfirm (f : Folder) (n : ℕ) (g : Folder) : Type 0 where
  pub stage : (f.processes n).stage ≡ Serves
  pub owns : f.owner ≡ n
  pub processes : g.processes ≡ f.processes
  pub owner : g.owner ≡ f.owner
  pub last : g.last ≡ f.last
  pub confirmed : g.confirmed ≡ (f.processes n).records

-- what a process does leads from one folder to another
abbrev pub Leads : Folder → ℕ → Act → Folder → Type 0
Leads f n Takes g = IsTake f n g
Leads f n Copies g = IsCopy f n g
Leads f n Publishes g = IsPublish f n g
Leads f n (Adds r) g = IsAdd f n r g
Leads f n Confirms g = IsConfirm f n g

-- ---- runs

-- what processes do, in this order, leads from one folder to another
abbrev pub IsRun : Folder → List (ℕ × Act) → Folder → Type 0
IsRun f [] g = g ≡ f
IsRun f (c ∷ cs) g = (next : Folder) × Leads f c.0 c.1 next × IsRun next cs g

-- a folder that one process serves, with all confirmed records in the last segment
pub record IsServed (f : Folder) : Type 0 where
  pub serves : (f.processes f.last).stage ≡ Serves
  pub owner : f.owner ≡ f.last
  pub kept : IsPrefix f.confirmed (in_last f)

-- no process becomes the owner
abbrev pub NobodyTakes : List (ℕ × Act) → Type 0
NobodyTakes [] = ⊤
NobodyTakes (c ∷ cs) = (c.1 ≢ Takes) × NobodyTakes cs

-- Whatever processes do with a folder that one process serves:
pub record OneWriter : Type 0 where
  -- all confirmed records are in the last segment, at all times
  pub kept : (f g : Folder) (cs : List (ℕ × Act)) → IsServed f → IsRun f cs g → IsPrefix g.confirmed (in_last g)
  -- a process that becomes the owner copies all records that were confirmed before, by whichever process
  pub read : (f g h : Folder) (cs : List (ℕ × Act)) (n : ℕ) → IsServed f → IsRun f cs g → IsCopy g n h → IsPrefix g.confirmed (h.processes n).records
  -- after a process has become the owner and until another one does, no other process confirms a record
  pub alone : (f g h i : Folder) (cs : List (ℕ × Act)) (n m : ℕ) → IsTake f n g → NobodyTakes cs → IsRun g cs h → IsConfirm h m i → m ≡ n
  -- what a process adds whose file is not the last segment is not in the log
  pub late : (f g : Folder) (n r : ℕ) → IsAdd f n r g → f.last ≢ n → in_last g ≡ in_last f
