-- What loading leaves in a run's bytes.
use Rattle.std.specs.Prelude.{List, map, ℕ, length}
use Rattle.paper.specs.Runs.{as_item}
use Rattle.paper.specs.Files.{File}
use Rattle.layout.specs.Changes.{cleared, with_sizes, with_records, appended_all}

-- "it leaves a run that is running, with S, V, R, E and the records as read, every mark 255, every memo byte 0, and as pending
-- items exactly the file's statements, cabinet, left and right as read, in file order": every byte is determined
unfoldable pub loaded_bytes : File → List ℕ
loaded_bytes f =
    appended_all (map as_item f.statements)
    (with_records 0 f.table.records
    (with_sizes f.table.cabinets f.table.unknowns (length f.table.records) (length f.statements) cleared))
