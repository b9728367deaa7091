mod Sections
