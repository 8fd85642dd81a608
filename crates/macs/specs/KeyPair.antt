-- What contracts see of a running PBKDF2: its password and the salt so far.
use Rattle.std.specs.Prelude.{◌≡◌, ◌++◌, ℕ, List}
use Rattle.macs.specs.Hmac.{Holds}
use Rattle.macs.specs.declared.pbkdf2_pair.Pbkdf2Pair.{Pbkdf2Pair}

-- the running PBKDF2 `pair` has this password, and was given the bytes of this salt so far
abbrev pub Pbkdf2HasPasswordAndSalt : Pbkdf2Pair → List ℕ → List ℕ → Type 0
Pbkdf2HasPasswordAndSalt pair password salt = Holds pair.salted password salt

-- these bytes were appended to the salt of a running PBKDF2, whatever its password and its salt were
abbrev pub AppendsToSalt : List ℕ → Pbkdf2Pair → Pbkdf2Pair → Type 0
AppendsToSalt bytes before after =
    (password salt : List ℕ) → Pbkdf2HasPasswordAndSalt before password salt → Pbkdf2HasPasswordAndSalt after password (salt ++ bytes)

-- the bytes are what f makes of the password of a running PBKDF2 and of its salt so far
abbrev pub IsOfPasswordAndSalt : Pbkdf2Pair → (List ℕ → List ℕ → List ℕ) → List ℕ → Type 0
IsOfPasswordAndSalt pair f bytes = (password salt : List ℕ) → Pbkdf2HasPasswordAndSalt pair password salt → bytes ≡ f password salt
