-- The room for what a rule file holds.
use Rattle.std.specs.Prelude.{◌≡◌, ◌≤◌, vec_capacity, vec_len}
use Rattle.std.specs.declared.vec.Vec.{Vec}

-- no tables, clause sheets and folders
abbrev pub IsEmpty : {T C F A : Type 0} → Vec T A → Vec C A → Vec F A → Type 0
IsEmpty ts cs fs = (vec_len ts ≡ 0) × (vec_len cs ≡ 0) × (vec_len fs ≡ 0)

-- as many as the largest file has
abbrev pub HasRoom : {T C F A : Type 0} → Vec T A → Vec C A → Vec F A → Type 0
HasRoom ts cs fs = (32 ≤ vec_capacity ts) × (32 ≤ vec_capacity cs) × (4 ≤ vec_capacity fs)
