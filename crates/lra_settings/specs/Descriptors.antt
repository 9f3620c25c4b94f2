-- How a service shares the descriptors that the system grants to it.
use Rattle.std.specs.Prelude.{ℕ, ◌+◌, ◌-◌, ◌*◌, ◌/◌, min, nat_le, Option, Some, None, if◌then◌else◌}
use Rattle.lra_settings.specs.declared.settings.Settings.{Settings}

-- descriptors that a file's service of so many workers uses beside connections and callbacks (this project's choice)
abbrev pub taken_by_file : ℕ → ℕ
taken_by_file workers = 5 * workers + 2

-- the same of a folder's service of so many workers and journals, the next one beside them (this project's choice)
abbrev pub taken_by_folder : ℕ → ℕ → ℕ
taken_by_folder workers journals = 3 * workers + 4 * (journals + 1)

-- what is left for connections and callbacks: 64 are kept back (this project's choice)
abbrev pub rest_of : ℕ → ℕ → ℕ
rest_of limit taken = limit - 64 - taken

-- the settings with callbacks for half of the rest at most, and connections for what they leave (this project's choice)
abbrev pub halved : ℕ → Settings → Settings
halved rest s = record s {
  connections = min s.connections (rest - min s.callbacks (rest / 2));
  callbacks = min s.callbacks (rest / 2);
}

-- the shared settings, where one connection and one callback fit
abbrev pub shared : ℕ → ℕ → Settings → Option Settings
shared limit taken s = if nat_le 2 (rest_of limit taken) then Some (halved (rest_of limit taken) s) else None
