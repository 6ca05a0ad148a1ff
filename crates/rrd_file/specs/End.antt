-- Definition: where the database with which bytes begin ends. The numbers of data sources, archives, rows and entries lead
-- there, as the records of the layout have fixed sizes: no other value is read, and no record is judged. So bytes that begin
-- with no database have an end too, within the bytes. `ends_are_found` says that it is the end of each database.
use Rattle.std.specs.Prelude.{ℕ, zero, suc, ◌+◌, ◌-◌, ◌*◌, ◌==◌, if◌then◌else◌, List, [], ◌∷◌, length, drop}
use Rattle.rrd_file.specs.Names.{w16, w32, from_be_bytes, Version, One, Two}
use Rattle.rrd_file.specs.Layout.Pieces.{Tag, AnUpdate, ATune, AResize, AnAddition, ARemoval, tag_byte, version_number}
use Rattle.rrd_file.specs.Stages.{count_size, header_size}

-- ---- numbers

-- the number in the first two or four bytes; 0 if there are fewer bytes
unfoldable pub two_in : List ℕ → ℕ
two_in (a ∷ b ∷ bytes) = from_be_bytes w16 (a ∷ b ∷ [])
two_in _ = 0

unfoldable pub four_in : List ℕ → ℕ
four_in (a ∷ b ∷ c ∷ d ∷ bytes) = from_be_bytes w32 (a ∷ b ∷ c ∷ d ∷ [])
four_in _ = 0

-- a count in the header of a version
abbrev pub count_in : Version → List ℕ → ℕ
count_in One bytes = two_in bytes
count_in Two bytes = four_in bytes

-- ---- sizes

-- rows with a cell for each data source
abbrev pub rows_size : ℕ → ℕ → ℕ
rows_size sources rows = rows * sources * 16

-- partial rows, one for each data source
abbrev pub parts_size : ℕ → ℕ
parts_size sources = 20 * sources

-- an archive's settings and partial rows; the number of rows is at byte 9
abbrev pub head_size : ℕ → ℕ
head_size sources = 13 + parts_size sources

-- ---- what follows

-- the bytes after a number of rows at an offset, `more` bytes, and those rows
unfoldable pub after_rows : ℕ → ℕ → ℕ → List ℕ → List ℕ
after_rows sources at more bytes = drop (at + 4 + more + rows_size sources (four_in (drop at bytes))) bytes

-- the bytes after the cells of archives, whose settings `heads` begins with; `cells` begins with the cells
unfoldable pub after_cells : ℕ → ℕ → List ℕ → List ℕ → List ℕ
after_cells sources zero heads cells = cells
after_cells sources (suc archives) heads cells =
    after_cells sources archives (drop (head_size sources) heads) (drop (rows_size sources (four_in (drop 9 heads))) cells)

-- the bytes after what an update replaced in so many archives: in each partial rows, the number of rows, and those rows
unfoldable pub after_all_saved : ℕ → ℕ → List ℕ → List ℕ
after_all_saved sources zero bytes = bytes
after_all_saved sources (suc archives) bytes =
    after_all_saved sources archives (after_rows sources (parts_size sources) 0 bytes)

-- the bytes after an entry, from those after its tag
unfoldable pub after_tag : ℕ → ℕ → Tag → List ℕ → List ℕ
after_tag sources archives AnUpdate bytes = after_all_saved sources archives (drop (8 + 36 * sources) bytes)
after_tag sources archives ATune bytes = drop (2 + 79 * two_in bytes) bytes
after_tag sources archives AResize bytes = after_rows sources 2 0 bytes
after_tag sources archives AnAddition bytes = bytes
after_tag sources archives ARemoval bytes = after_rows sources 11 (parts_size sources) bytes

-- the number of archives before a change
abbrev pub archives_before : ℕ → Tag → ℕ
archives_before archives AnUpdate = archives
archives_before archives ATune = archives
archives_before archives AResize = archives
archives_before archives AnAddition = archives - 1
archives_before archives ARemoval = archives + 1

-- a choice by the byte of a tag; bytes with another are no database's
abbrev pub by_tag : ℕ → (Tag → List ℕ) → List ℕ
by_tag byte after =
    if byte == tag_byte AnUpdate then after AnUpdate
    else (if byte == tag_byte ATune then after ATune
    else (if byte == tag_byte AResize then after AResize
    else (if byte == tag_byte AnAddition then after AnAddition
    else (if byte == tag_byte ARemoval then after ARemoval else []))))

-- the bytes after the entries, newest first; the newest is undone first, and changes the number of archives
unfoldable pub after_entries : ℕ → ℕ → ℕ → List ℕ → List ℕ
after_entries sources archives zero bytes = bytes
after_entries sources archives (suc entries) [] = []
after_entries sources archives (suc entries) (byte ∷ bytes) =
    by_tag byte (λ tag. after_entries sources (archives_before archives tag) entries (after_tag sources archives tag bytes))

-- the bytes after the data sources, the archives and the entries
unfoldable pub after_body : ℕ → ℕ → ℕ → List ℕ → List ℕ
after_body sources archives entries bytes =
    let heads = drop (97 * sources) bytes in
    after_entries sources archives entries (after_cells sources archives heads (drop (archives * head_size sources) heads))

-- the bytes after the database, from those after its version: in the header the step, the last time and the depth come
-- before the numbers of data sources, archives and entries
unfoldable pub after_version : Version → List ℕ → List ℕ
after_version version bytes =
    let counts = drop (12 + count_size version) bytes in
    after_body (two_in counts) (two_in (drop 2 counts)) (count_in version (drop 4 counts)) (drop (header_size version) bytes)

-- a choice by the number of a version; bytes with another are no database's
abbrev pub by_version : ℕ → (Version → List ℕ) → List ℕ
by_version number after =
    if number == version_number One then after One else (if number == version_number Two then after Two else [])

-- the bytes after the database, from its mark on
unfoldable pub after_database : List ℕ → List ℕ
after_database bytes = by_version (two_in (drop 4 bytes)) (λ version. after_version version (drop 6 bytes))

-- the length of the database with which bytes begin
unfoldable pub file_end : List ℕ → ℕ
file_end bytes = length bytes - length (after_database bytes)
