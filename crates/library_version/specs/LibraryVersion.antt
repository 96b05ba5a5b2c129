-- The version of the library, which a caller may compare with that of the header he was compiled with. The documents name none;
-- docs/DECISIONS.md says when each part grows.
use Rattle.std.specs.Prelude.{◌≡◌, refl, ℕ, ◌+◌, ◌*◌}

abbrev pub major_version : ℕ
major_version = 0

abbrev pub minor_version : ℕ
minor_version = 2

abbrev pub patch_version : ℕ
patch_version = 0

-- two digits for the patch, two for the minor part, the rest for the major one
abbrev pub version_number : ℕ → ℕ → ℕ → ℕ
version_number major minor patch = major * 10000 + minor * 100 + patch

abbrev pub library_version : ℕ
library_version = version_number major_version minor_version patch_version

pub known_version_numbers : (version_number 1 2 3 ≡ 10203) × (version_number 0 10 0 ≡ 1000)
known_version_numbers = (refl, refl)
