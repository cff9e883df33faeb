-- The texts that make the office's tables.
use Rattle.std.specs.Prelude.{ℕ, List, ◌++◌, codes}

abbrev pub about_text : List ℕ
about_text = codes "CREATE TABLE about (id INTEGER PRIMARY KEY, format INTEGER NOT NULL) STRICT"

abbrev pub tariffs_text : List ℕ
tariffs_text = codes "CREATE TABLE tariffs (name TEXT NOT NULL PRIMARY KEY) STRICT"

abbrev pub tariff_steps_text : List ℕ
tariff_steps_text = codes "CREATE TABLE tariff_steps (tariff TEXT NOT NULL REFERENCES tariffs "
    ++ codes "(name), place INTEGER NOT NULL, ends INTEGER, price INTEGER NOT NULL, "
    ++ codes "UNIQUE (tariff, place)) STRICT"

abbrev pub meters_text : List ℕ
meters_text = codes "CREATE TABLE meters (meter TEXT NOT NULL PRIMARY KEY, base INTEGER NOT NULL, "
    ++ codes "tariff TEXT NOT NULL REFERENCES tariffs (name), secret TEXT NOT NULL) STRICT"

abbrev pub shifts_text : List ℕ
shifts_text = codes "CREATE TABLE shifts (number INTEGER PRIMARY KEY, operator TEXT NOT NULL, "
    ++ codes "opened INTEGER NOT NULL, closed INTEGER) STRICT"

abbrev pub sales_text : List ℕ
sales_text = codes "CREATE TABLE sales (number INTEGER PRIMARY KEY, moment INTEGER NOT NULL, "
    ++ codes "month INTEGER NOT NULL, shift INTEGER NOT NULL REFERENCES shifts (number), "
    ++ codes "operator TEXT NOT NULL, ref TEXT NOT NULL, "
    ++ codes "meter TEXT NOT NULL REFERENCES meters (meter), base INTEGER NOT NULL, "
    ++ codes "tid INTEGER NOT NULL, rnd INTEGER NOT NULL, tenths INTEGER NOT NULL, "
    ++ codes "price INTEGER NOT NULL, tender INTEGER NOT NULL, digits TEXT NOT NULL, "
    ++ codes "UNIQUE (operator, ref), UNIQUE (meter, base, tid)) STRICT"

abbrev pub last_ids_text : List ℕ
last_ids_text = codes "CREATE TABLE last_ids (meter TEXT NOT NULL, base INTEGER NOT NULL, "
    ++ codes "tid INTEGER NOT NULL, UNIQUE (meter, base)) STRICT"

abbrev pub month_tenths_text : List ℕ
month_tenths_text = codes "CREATE TABLE month_tenths (meter TEXT NOT NULL, month INTEGER NOT NULL, "
    ++ codes "tenths INTEGER NOT NULL, UNIQUE (meter, month)) STRICT"

abbrev pub shift_totals_text : List ℕ
shift_totals_text = codes "CREATE TABLE shift_totals (shift INTEGER PRIMARY KEY, "
    ++ codes "sales INTEGER NOT NULL, tenths INTEGER NOT NULL, cash INTEGER NOT NULL) STRICT"

abbrev pub meter_bases_text : List ℕ
meter_bases_text = codes "CREATE TABLE meter_bases (meter TEXT NOT NULL REFERENCES meters (meter), "
    ++ codes "base INTEGER NOT NULL, UNIQUE (meter, base)) STRICT"

abbrev pub dated_steps_text : List ℕ
dated_steps_text = codes "CREATE TABLE dated_steps (tariff TEXT NOT NULL REFERENCES tariffs "
    ++ codes "(name), day INTEGER NOT NULL, place INTEGER NOT NULL, ends INTEGER, "
    ++ codes "price INTEGER NOT NULL, UNIQUE (tariff, day, place)) STRICT"
